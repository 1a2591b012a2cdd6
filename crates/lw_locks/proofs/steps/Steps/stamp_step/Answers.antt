-- A call that isn't on registers, stamped.
use Rattle.lw_locks.proofs.Stepping.{holding_stepped}
use Rattle.lw_locks.proofs.steps.Steps.stamp_step.Goals as goal

pub invariant_of-holder : goal.invariant_of-holder
invariant_of-holder g c =
    let e = g.E.Engine in
    let own = c.holder.inside in
    let self = c.args.self.now in
    holding_stepped g.N.Opening.desk (e.sizes self.engine) (e.assets self.engine) self.begun own.seat c.stamp-ticket.new.seat own.task c.args.call.now c.stamp-ticket.result c.stamp-ticket.ensures e.relations g.N.Opening.word own.made own.regs c.requires.registers c.holder.invariant
