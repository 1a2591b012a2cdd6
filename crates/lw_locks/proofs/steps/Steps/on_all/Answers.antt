-- A call on all layers, made and stamped.
use Rattle.std.proofs.Common.{◌∙◌, sym, ap, subst}
use Rattle.lw_machine.specs.History.{machine}
use Rattle.lw_engine_trait.specs.Steps.{IsAllStep}
use Rattle.lw_locks.specs.Held.{AreHeld}
use Rattle.lw_locks.specs.Promised.{Done}
use Rattle.lw_locks.proofs.Stepping.{owns_all, parts_held, held_still, all_made, stepped_ok}
use Rattle.lw_locks.proofs.steps.Steps.on_all.Given.{Over}
use Rattle.lw_locks.proofs.steps.Steps.on_all.Goals.{After-stamp_step-ticket}
use Rattle.lw_locks.proofs.steps.Steps.on_all.Goals as goal

pub all-requires-clause-desk : goal.all-requires-clause-desk
all-requires-clause-desk g c =
    let e = g.E.Engine in
    let desk = g.N.Opening.desk in
    let self = c.args.self.now in
    let own = c.args.holder.now in
    (machine desk own.seat.history, parts_held e.relations desk (e.sizes self.engine) (e.assets self.engine) self.begun own.seat c.task-task.ensures.known.fits c.args.info.now c.args.cells.now c.requires.slots c.requires.held)

pub returns-in_err-reply-clause-held : goal.returns-in_err-reply-clause-held
returns-in_err-reply-clause-held g c =
    let e = g.E.Engine in
    let desk = g.N.Opening.desk in
    let self = c.args.self.now in
    let own = c.args.holder.now in
    let had = parts_held e.relations desk (e.sizes self.engine) (e.assets self.engine) self.begun own.seat c.task-task.ensures.known.fits c.args.info.now c.args.cells.now c.requires.slots c.requires.held in
    held_still e.relations desk (e.sizes self.engine) (e.assets self.engine) self.begun own.seat c.task-task.ensures.known.fits c.args.info.now c.args.cells.now c.requires.slots c.requires.held c.all.new.info c.all.new.cells
    (c.in_err-reply.ensures.unchanged (machine desk own.seat.history) had)

pub stamp_step-ticket-requires-clause-owns : goal.stamp_step-ticket-requires-clause-owns
stamp_step-ticket-requires-clause-owns g c κs within has =
    let e = g.E.Engine in
    let self = c.args.self.now in
    let own = c.args.holder.now in
    owns_all e.relations g.N.Opening.desk (e.sizes self.engine) (e.assets self.engine) self.begun own.seat c.task-task.ensures.known.fits c.args.info.now c.args.cells.now c.requires.slots c.requires.held own.task c.args.call.now has c.requires.class

made : (g : Over) (c : After-stamp_step-ticket g) → Done g.N.Opening.desk c.args.holder.now.seat.roles c.args.holder.now.task c.args.holder.now.seat.history c.stamp_step-ticket.new.holder.seat.history c.args.call.now c.in_ok-reply.reply c.stamp_step-ticket.result
    × AreHeld g.E.Engine.relations g.N.Opening.desk c.stamp_step-ticket.new.holder.seat c.all.new.info c.all.new.cells
made g c =
    let e = g.E.Engine in
    let self = c.args.self.now in
    let own = c.args.holder.now in
    let many = c.requires.slots ∙ ap (λ z. z.slots) (sym self.begun.sizes) in
    all_made g.N.Opening.desk (e.sizes self.engine) (e.assets self.engine) self.begun own.seat c.stamp_step-ticket.new.holder.seat own.task c.args.call.now c.stamp_step-ticket.result c.stamp_step-ticket.ensures.stamped e.relations c.args.info.now c.all.new.info c.args.cells.now c.all.new.cells
    c.in_ok-reply.reply many c.requires.held
    (subst (λ t. IsAllStep e.relations (e.sizes self.engine) (e.assets self.engine) c.args.info.now c.args.cells.now t c.args.call.now c.in_ok-reply.reply c.all.new.info c.all.new.cells) c.task-task.ensures.number c.in_ok-reply.ensures.step)

pub returns-clause-stepped : goal.returns-clause-stepped
returns-clause-stepped g c =
    let e = c.stamp_step-ticket.ensures in
    stepped_ok g.N.Opening.desk c.args.holder.now c.stamp_step-ticket.new.holder c.args.call.now (record { reply = c.in_ok-reply.reply; ticket = c.stamp_step-ticket.result }) e.task e.stamped (made g c).0

pub returns-clause-held : goal.returns-clause-held
returns-clause-held g c = (made g c).1
