-- A call on one layer, between a join and a split of seats.
use Rattle.std.proofs.Common.{refl, ◌∙◌}
use Rattle.lw_calls.specs.declared.touch.Role.TheVariants.{Slot}
use Rattle.lw_locks.proofs.Passes.{may_own, has_own, may_still, cell_held, has_off, alone_back, called_back, layer_back}
use Rattle.lw_locks.proofs.desk.Desk.under_layer.Goals as goal

pub on_layer-answer-requires-clause-may : goal.on_layer-answer-requires-clause-may
on_layer-answer-requires-clause-may g c κs within =
    let own = c.pass.inside.holder in
    let desk = g.N.Opening.desk in
    may_still desk own c.layer.inside.seat c.hold.new.holder c.hold.ensures c.args.call.now (has_own own c.pass.invariant) (may_own desk own c.args.pass.now c.pass.invariant c.pass.view_is c.args.call.now c.requires.may)

pub on_layer-answer-requires-clause-cell : goal.on_layer-answer-requires-clause-cell
on_layer-answer-requires-clause-cell g c κs within =
    cell_held g.N.Opening.desk c.pass.inside.holder c.layer.inside.seat c.hold.new.holder c.hold.ensures g.E.Engine.relations c.layer.inside.cell c.layer.invariant.cell

pub give-seat-requires-clause-role : goal.give-seat-requires-clause-role
give-seat-requires-clause-role g c κs within =
    has_off g.N.Opening.desk c.pass.inside.holder c.layer.inside.seat c.hold.new.holder c.hold.ensures (Slot c.layer.inside.slot) c.on_layer-answer.new.holder c.layer.invariant.roles c.on_layer-answer.ensures.stepped.roles

pub invariant_of-back : goal.invariant_of-back
invariant_of-back g c =
    let e = c.on_layer-answer.ensures in
    layer_back g.E.Engine.relations g.N.Opening.word g.N.Opening.desk c.layer.inside.slot c.on_layer-answer.new.holder c.give-seat.new.holder c.give-seat.result c.on_layer-answer.new.cell c.give-seat.ensures (e.number ∙ c.layer.invariant.number) e.cell

pub invariant_of-pass : goal.invariant_of-pass
invariant_of-pass g c =
    let e = c.on_layer-answer.ensures.stepped in
    alone_back g.N.Opening.desk c.pass.inside.holder c.layer.inside.seat c.hold.new.holder c.hold.ensures g.N.Opening.word (Slot c.layer.inside.slot) c.on_layer-answer.new.holder c.give-seat.new.holder c.give-seat.result c.layer.invariant.roles e.roles e.task c.give-seat.ensures c.pass.invariant refl

pub returns : goal.returns
returns g c =
    called_back g.N.Opening.desk c.pass.inside.holder c.args.pass.now c.pass.invariant c.pass.view_is g.N.Opening.word (Slot c.layer.inside.slot) c.layer.inside.seat c.hold.new.holder c.on_layer-answer.new.holder c.give-seat.new.holder c.give-seat.result c.args.call.now c.on_layer-answer.result
    c.hold.ensures c.give-seat.ensures c.on_layer-answer.ensures.stepped
