use Rattle.std.proofs.Common.{◌≡◌, length, vec_capacity}
use Rattle.lw_locks.specs.Held.{AreHeld}
use Rattle.lw_locks.proofs.Running.{Going}
use Rattle.lw_locks.proofs.steps.Steps.each_on_all.Given as goal

abbrev pub invariant-loop-call : goal.invariant-loop-call
invariant-loop-call g l =
    Going g.N.Opening.desk l.initial.holder l.holder l.calls l.initial.answers.items l.answers.items l.call-index
    × AreHeld g.E.Engine.relations g.N.Opening.desk l.holder.seat l.info l.cells
    × (length l.cells ≡ g.N.Opening.desk.sizes.slots)
    × (vec_capacity l.answers ≡ vec_capacity l.initial.answers)
