-- Calls under all locks.
use Rattle.std.proofs.Common.{length, refl, ap}
use Rattle.lw_calls.specs.declared.group.Hold.TheVariants.{All as AllSlots}
use Rattle.lw_calls.specs.declared.touch.CallClass.TheVariants.{OnAll}
use Rattle.lw_calls.specs.declared.touch.Role.TheVariants.{Info}
use Rattle.lw_locks.specs.Held.{roles_below}
use Rattle.lw_locks.proofs.Passes.{may_own_each, has_own, may_each_still, roles_back, apart_alone, called_each_back}
use Rattle.lw_locks.proofs.Running.{called_none}
use Rattle.lw_locks.proofs.Deeper.{info_held}
use Rattle.lw_locks.proofs.desk.Desk.under_all.Goals as goal

pub returns-in_err-cells : goal.returns-in_err-cells
returns-in_err-cells g c = called_none g.N.Opening.desk AllSlots c.args.pass.now c.args.calls.now c.args.answers.now.items c.from_residual.result c.requires.may.some c.from_residual.ensures.0

pub under_slots-done-requires-clause-may : goal.under_slots-done-requires-clause-may
under_slots-done-requires-clause-may g c κs within =
    let own = c.pass.inside.holder in
    let desk = g.N.Opening.desk in
    let calls = c.args.calls.now in
    may_each_still desk own c.info.inside.seat c.hold.new.holder c.hold.ensures OnAll calls (has_own own c.pass.invariant) (may_own_each desk own c.args.pass.now c.pass.invariant c.pass.view_is OnAll calls c.requires.may)

pub under_slots-done-requires-clause-held : goal.under_slots-done-requires-clause-held
under_slots-done-requires-clause-held g c κs within =
    let cells = c.in_ok-cells.cells in
    info_held g.E.Engine.relations g.N.Opening.desk c.pass.inside.holder.seat c.info.inside.seat c.hold.new.holder.seat c.info.inside.info cells.items c.hold.ensures.joined (ap length c.in_ok-cells.ensures.items) c.info.invariant.info

pub returns : goal.returns
returns g c =
    let desk = g.N.Opening.desk in
    let own = c.pass.inside.holder in
    let theirs = c.info.inside.seat in
    let both = c.hold.new.holder in
    let stepped = c.under_slots-done.new.holder in
    let left = c.give-seat.new.holder in
    let e = c.under_slots-done.ensures.stepped in
    let held = roles_below both.task desk.sizes.slots in
    let back = roles_back desk own theirs both c.hold.ensures g.N.Opening.word Info stepped left c.give-seat.result c.info.invariant.roles e.roles c.give-seat.ensures (apart_alone Info own c.pass.invariant refl) in
    called_each_back desk own c.args.pass.now c.pass.invariant c.pass.view_is AllSlots g.N.Opening.word Info theirs both stepped left c.give-seat.result held c.args.calls.now c.args.answers.now.items c.under_slots-done.new.answers.items c.under_slots-done.result
    c.hold.ensures c.give-seat.ensures back (ap (λ t. roles_below t desk.sizes.slots) c.hold.ensures.task) e
