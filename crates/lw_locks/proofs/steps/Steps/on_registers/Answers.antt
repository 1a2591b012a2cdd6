-- A call on registers, made and stamped.
use Rattle.std.proofs.Common.{refl, subst}
use Rattle.std.specs.Prelude.{Ok}
use Rattle.lw_locks.specs.Called.{Stepped}
use Rattle.lw_locks.specs.Seen.{SeenHolder}
use Rattle.lw_locks.proofs.Stepping.{registers_made, holding_with, stepped_ok}
use Rattle.lw_locks.proofs.steps.Steps.on_registers.Goals as goal

pub invariant_of-holder-2 : goal.invariant_of-holder-2
invariant_of-holder-2 g c =
    let e = g.E.Engine in
    let own = c.holder.inside in
    let self = c.args.self.now in
    holding_with g.N.Opening.desk (e.sizes self.engine) (e.assets self.engine) self.begun own.seat c.stamp-ticket.new.seat own.task c.args.call.now c.stamp-ticket.result c.stamp-ticket.ensures e.relations g.N.Opening.word own.made own.regs c.regs.new.regs c.holder.invariant
    (registers_made g.N.Opening.desk (e.sizes self.engine) (e.assets self.engine) self.begun own.seat c.stamp-ticket.new.seat own.task c.args.call.now c.stamp-ticket.result c.stamp-ticket.ensures e.relations own.regs c.regs.new.regs c.in_ok-reply.reply c.holder.invariant.regs c.in_ok-reply.ensures.step).1

pub returns : goal.returns
returns g c =
    let e = g.E.Engine in
    let self = c.args.self.now in
    let own = c.holder.inside in
    let left : SeenHolder = record { task = own.task; seat = c.stamp-ticket.new.seat } in
    subst (λ (h : SeenHolder). Stepped g.N.Opening.desk h left c.args.call.now (Ok (record { reply = c.in_ok-reply.reply; ticket = c.stamp-ticket.result }))) c.holder.view_is
    (stepped_ok g.N.Opening.desk (record { task = own.task; seat = own.seat }) left c.args.call.now (record { reply = c.in_ok-reply.reply; ticket = c.stamp-ticket.result }) refl c.stamp-ticket.ensures
    (registers_made g.N.Opening.desk (e.sizes self.engine) (e.assets self.engine) self.begun own.seat c.stamp-ticket.new.seat own.task c.args.call.now c.stamp-ticket.result c.stamp-ticket.ensures e.relations own.regs c.regs.new.regs c.in_ok-reply.reply c.holder.invariant.regs c.in_ok-reply.ensures.step).0)
