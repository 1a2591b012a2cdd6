-- A call on one layer, made and stamped.
use Rattle.std.proofs.Common.{subst}
use Rattle.lw_engine_trait.specs.Steps.{IsOneStep}
use Rattle.lw_locks.specs.Held.{IsCell}
use Rattle.lw_locks.specs.Promised.{Done}
use Rattle.lw_locks.proofs.Stepping.{one_made, stepped_ok}
use Rattle.lw_locks.proofs.steps.Steps.on_layer.Given.{Over}
use Rattle.lw_locks.proofs.steps.Steps.on_layer.Goals.{After-stamp_step-ticket}
use Rattle.lw_locks.proofs.steps.Steps.on_layer.Goals as goal

made : (g : Over) (c : After-stamp_step-ticket g) → Done g.N.Opening.desk c.args.holder.now.seat.roles c.args.holder.now.task c.args.holder.now.seat.history c.stamp_step-ticket.new.holder.seat.history c.args.call.now c.in_ok-reply.reply c.stamp_step-ticket.result
    × IsCell g.E.Engine.relations g.N.Opening.desk c.stamp_step-ticket.new.holder.seat c.one.new.cell
made g c =
    let e = g.E.Engine in
    let self = c.args.self.now in
    let own = c.args.holder.now in
    one_made g.N.Opening.desk (e.sizes self.engine) (e.assets self.engine) self.begun own.seat c.stamp_step-ticket.new.holder.seat own.task c.args.call.now c.stamp_step-ticket.result c.stamp_step-ticket.ensures.stamped e.relations c.args.cell.now c.one.new.cell c.regs-regs.result.now c.in_ok-reply.reply
    c.requires.cell c.regs-regs.ensures c.one.ensures.number
    (subst (λ t. IsOneStep e.relations (e.sizes self.engine) (e.assets self.engine) c.args.cell.now c.regs-regs.result.now t c.args.call.now c.in_ok-reply.reply c.one.new.cell) c.task-task.ensures.number c.in_ok-reply.ensures.step)

pub returns-clause-stepped : goal.returns-clause-stepped
returns-clause-stepped g c =
    let e = c.stamp_step-ticket.ensures in
    stepped_ok g.N.Opening.desk c.args.holder.now c.stamp_step-ticket.new.holder c.args.call.now (record { reply = c.in_ok-reply.reply; ticket = c.stamp_step-ticket.result }) e.task e.stamped (made g c).0

pub returns-clause-cell : goal.returns-clause-cell
returns-clause-cell g c = (made g c).1
