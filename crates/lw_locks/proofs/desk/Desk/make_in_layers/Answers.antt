-- A call on two layers, between two joins and two splits of seats.
use Rattle.std.proofs.Common.{◌∙◌, ap, sym, subst, refl}
use Rattle.lw_calls.specs.declared.touch.CallClass.TheVariants.{OnLayers}
use Rattle.lw_calls.specs.declared.touch.Role.TheVariants.{Slot}
use Rattle.lw_locks.specs.Promised.{Done}
use Rattle.lw_locks.proofs.Passes.{second_apart, may_own, has_own, may_still, still_has, cell_held, cell_kept, has_off, apart_two, roles_back, done_seen, done_wider}
use Rattle.lw_locks.proofs.desk.Desk.make_in_layers.Goals as goal

pub on_layers-answer-requires-clause-may : goal.on_layers-answer-requires-clause-may
on_layers-answer-requires-clause-may g c κs within =
    let own = c.pass.inside.holder in
    let desk = g.N.Opening.desk in
    let one = c.first.inside.seat in
    let mid = c.hold.new.holder in
    let call = c.args.call.now in
    let may = may_still desk own one mid c.hold.ensures call (has_own own c.pass.invariant) (may_own desk own c.args.pass.now c.pass.invariant c.pass.view_is call c.requires.may) in
    may_still desk mid c.second.inside.seat c.hold-2.new.holder c.hold-2.ensures call (still_has desk own one mid c.hold.ensures c.pass.invariant) may

pub on_layers-answer-requires-clause-source : goal.on_layers-answer-requires-clause-source
on_layers-answer-requires-clause-source g c κs within =
    let desk = g.N.Opening.desk in
    let relations = g.E.Engine.relations in
    let mid = c.hold.new.holder in
    let kept = c.first.inside.cell in
    cell_kept desk mid c.second.inside.seat c.hold-2.new.holder c.hold-2.ensures relations kept (cell_held desk c.pass.inside.holder c.first.inside.seat mid c.hold.ensures relations kept c.first.invariant.cell)

pub on_layers-answer-requires-clause-to : goal.on_layers-answer-requires-clause-to
on_layers-answer-requires-clause-to g c κs within =
    cell_held g.N.Opening.desk c.hold.new.holder c.second.inside.seat c.hold-2.new.holder c.hold-2.ensures g.E.Engine.relations c.second.inside.cell c.second.invariant.cell

pub give-first-requires-clause-role : goal.give-first-requires-clause-role
give-first-requires-clause-role g c κs within =
    let desk = g.N.Opening.desk in
    let own = c.pass.inside.holder in
    let mid = c.hold.new.holder in
    let held = Slot c.first.inside.slot in
    let off = Slot c.second.inside.slot in
    let class = c.requires.class ∙ (ap (λ n. OnLayers n c.args.second) (sym c.first.view_is) ∙ ap (λ n. OnLayers c.first.inside.slot n) (sym c.second.view_is)) in
    let apart = apart_two desk own c.first.inside.seat mid c.hold.ensures held off c.first.invariant.roles c.pass.invariant refl (second_apart c.args.call.now c.first.inside.slot c.second.inside.slot class) in
    let back = roles_back desk mid c.second.inside.seat c.hold-2.new.holder c.hold-2.ensures g.N.Opening.word off c.on_layers-answer.new.holder c.give-second.new.holder c.give-second.result c.second.invariant.roles c.on_layers-answer.ensures.roles c.give-second.ensures apart in
    has_off desk own c.first.inside.seat mid c.hold.ensures held c.give-second.new.holder c.first.invariant.roles back

pub returns-clause-done : goal.returns-clause-done
returns-clause-done g c =
    let desk = g.N.Opening.desk in
    let own = c.pass.inside.holder in
    let mid = c.hold.new.holder in
    let both = c.hold-2.new.holder in
    let call = c.args.call.now in
    let answer = c.on_layers-answer.result in
    let left = c.give-first.new.holder.seat.history in
    let same = c.give-first.ensures.history ∙ c.give-second.ensures.history in
    let made = subst (λ h. Done desk both.seat.roles both.task both.seat.history h call answer.reply answer.ticket) (sym same) c.on_layers-answer.ensures.done in
    let wider = done_wider desk own c.first.inside.seat mid c.hold.ensures left call answer.reply answer.ticket (done_wider desk mid c.second.inside.seat both c.hold-2.ensures left call answer.reply answer.ticket made) in
    done_seen desk own c.args.pass.now c.pass.invariant c.pass.view_is left call answer.reply answer.ticket wider
