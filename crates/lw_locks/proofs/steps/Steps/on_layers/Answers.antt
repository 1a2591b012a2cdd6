-- A call on two layers, made and stamped.
use Rattle.lw_locks.specs.Held.{IsCell}
use Rattle.lw_locks.specs.Promised.{Done}
use Rattle.lw_locks.proofs.Stepping.{two_made}
use Rattle.lw_locks.proofs.steps.Steps.on_layers.Given.{Over}
use Rattle.lw_locks.proofs.steps.Steps.on_layers.Goals.{After-stamp_step-ticket}
use Rattle.lw_locks.proofs.steps.Steps.on_layers.Goals as goal

made : (g : Over) (c : After-stamp_step-ticket g) → Done g.N.Opening.desk c.args.holder.now.seat.roles c.args.holder.now.task c.args.holder.now.seat.history c.stamp_step-ticket.new.holder.seat.history c.args.call.now c.two-reply.result c.stamp_step-ticket.result
    × IsCell g.E.Engine.relations g.N.Opening.desk c.stamp_step-ticket.new.holder.seat c.args.source.now
    × IsCell g.E.Engine.relations g.N.Opening.desk c.stamp_step-ticket.new.holder.seat c.two-reply.new.to
made g c =
    let e = g.E.Engine in
    let self = c.args.self.now in
    let own = c.args.holder.now in
    two_made g.N.Opening.desk (e.sizes self.engine) (e.assets self.engine) self.begun own.seat c.stamp_step-ticket.new.holder.seat own.task c.args.call.now c.stamp_step-ticket.result c.stamp_step-ticket.ensures.stamped e.relations c.args.source.now c.args.to.now c.two-reply.new.to c.two-reply.result
    c.requires.source c.requires.to c.two-reply.ensures.number c.two-reply.ensures.step

pub returns-clause-source : goal.returns-clause-source
returns-clause-source g c = (made g c).1

pub returns-clause-to : goal.returns-clause-to
returns-clause-to g c = (made g c).2

pub returns-clause-done : goal.returns-clause-done
returns-clause-done g c = (made g c).0
