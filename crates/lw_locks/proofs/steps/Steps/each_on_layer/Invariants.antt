use Rattle.std.proofs.Common.{◌≡◌, vec_capacity}
use Rattle.lw_locks.specs.Held.{IsCell}
use Rattle.lw_locks.proofs.Running.{Going}
use Rattle.lw_locks.proofs.steps.Steps.each_on_layer.Given as goal

abbrev pub invariant-loop-call : goal.invariant-loop-call
invariant-loop-call g l =
    Going g.N.Opening.desk l.initial.holder l.holder l.calls l.initial.answers.items l.answers.items l.call-index
    × IsCell g.E.Engine.relations g.N.Opening.desk l.holder.seat l.cell
    × (g.E.Engine.relations.number l.cell ≡ g.E.Engine.relations.number l.initial.cell)
    × (vec_capacity l.answers ≡ vec_capacity l.initial.answers)
