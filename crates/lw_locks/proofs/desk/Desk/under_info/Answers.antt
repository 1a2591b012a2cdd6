-- A look at LayerInfo, between a join and a split of seats.
use Rattle.std.proofs.Common.{refl}
use Rattle.lw_calls.specs.declared.touch.Role.TheVariants.{Info}
use Rattle.lw_locks.proofs.Passes.{may_own, has_own, may_still, info_got, has_off, alone_back, done_back, info_back}
use Rattle.lw_locks.proofs.desk.Desk.under_info.Goals as goal

pub on_info-answer-requires-clause-may : goal.on_info-answer-requires-clause-may
on_info-answer-requires-clause-may g c κs within =
    let own = c.pass.inside.holder in
    let desk = g.N.Opening.desk in
    may_still desk own c.info.inside.seat c.hold.new.holder c.hold.ensures c.args.call.now (has_own own c.pass.invariant) (may_own desk own c.args.pass.now c.pass.invariant c.pass.view_is c.args.call.now c.requires.may)

pub on_info-answer-requires-clause-info : goal.on_info-answer-requires-clause-info
on_info-answer-requires-clause-info g c κs within =
    info_got g.N.Opening.desk c.pass.inside.holder c.info.inside.seat c.hold.new.holder c.hold.ensures g.E.Engine.relations c.info.inside.info c.info.invariant.info

pub give-seat-requires-clause-role : goal.give-seat-requires-clause-role
give-seat-requires-clause-role g c κs within =
    has_off g.N.Opening.desk c.pass.inside.holder c.info.inside.seat c.hold.new.holder c.hold.ensures Info c.on_info-answer.new.holder c.info.invariant.roles c.on_info-answer.ensures.roles

pub invariant_of-back : goal.invariant_of-back
invariant_of-back g c =
    info_back g.E.Engine.relations g.N.Opening.word g.N.Opening.desk c.on_info-answer.new.holder c.give-seat.new.holder c.give-seat.result c.info.inside.info c.give-seat.ensures c.on_info-answer.ensures.info

pub invariant_of-pass : goal.invariant_of-pass
invariant_of-pass g c =
    let e = c.on_info-answer.ensures in
    alone_back g.N.Opening.desk c.pass.inside.holder c.info.inside.seat c.hold.new.holder c.hold.ensures g.N.Opening.word Info c.on_info-answer.new.holder c.give-seat.new.holder c.give-seat.result c.info.invariant.roles e.roles e.task c.give-seat.ensures c.pass.invariant refl

pub returns-clause-done : goal.returns-clause-done
returns-clause-done g c =
    let answer = c.on_info-answer.result in
    done_back g.N.Opening.desk c.pass.inside.holder c.args.pass.now c.pass.invariant c.pass.view_is g.N.Opening.word Info c.info.inside.seat c.hold.new.holder c.on_info-answer.new.holder c.give-seat.new.holder c.give-seat.result c.args.call.now answer.reply answer.ticket
    c.hold.ensures c.give-seat.ensures c.on_info-answer.ensures.done
