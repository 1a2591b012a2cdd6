-- A look at LayerInfo, made and stamped.
use Rattle.lw_locks.specs.Held.{IsInfo}
use Rattle.lw_locks.specs.Promised.{Done}
use Rattle.lw_locks.proofs.Stepping.{look_made}
use Rattle.lw_locks.proofs.steps.Steps.on_info.Given.{Over}
use Rattle.lw_locks.proofs.steps.Steps.on_info.Goals.{After-stamp_step-ticket}
use Rattle.lw_locks.proofs.steps.Steps.on_info.Goals as goal

made : (g : Over) (c : After-stamp_step-ticket g) → Done g.N.Opening.desk c.args.holder.now.seat.roles c.args.holder.now.task c.args.holder.now.seat.history c.stamp_step-ticket.new.holder.seat.history c.args.call.now c.look-reply.result c.stamp_step-ticket.result
    × IsInfo g.E.Engine.relations g.N.Opening.desk c.stamp_step-ticket.new.holder.seat c.args.info.now
made g c =
    let e = g.E.Engine in
    let self = c.args.self.now in
    let own = c.args.holder.now in
    look_made g.N.Opening.desk (e.sizes self.engine) (e.assets self.engine) self.begun own.seat c.stamp_step-ticket.new.holder.seat own.task c.args.call.now c.stamp_step-ticket.result c.stamp_step-ticket.ensures.stamped e.relations c.args.info.now c.look-reply.result c.requires.info c.requires.class c.look-reply.ensures.step

pub returns-clause-info : goal.returns-clause-info
returns-clause-info g c = (made g c).1

pub returns-clause-done : goal.returns-clause-done
returns-clause-done g c = (made g c).0
