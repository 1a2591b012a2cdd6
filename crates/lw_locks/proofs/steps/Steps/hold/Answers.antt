-- A seat joined to a task's.
use Rattle.lw_locks.proofs.Passes.{holding_joined}
use Rattle.lw_locks.proofs.steps.Steps.hold.Goals as goal

pub invariant_of-holder : goal.invariant_of-holder
invariant_of-holder g c =
    let own = c.holder.inside in
    holding_joined g.E.Engine.relations g.N.Opening.word g.N.Opening.desk own.task own.made own.seat c.args.theirs c.join.new.seat own.regs c.join.ensures c.holder.invariant
