-- Calls under the locks of the slots whose cells aren't held.
use Rattle.std.proofs.Common.{◌≡◌, ◌+◌, [], ◌∷◌, length, sym, subst, ap, refl, ◌∙◌, arith, length-append}
use Rattle.lw_calls.specs.declared.touch.CallClass.TheVariants.{OnAll}
use Rattle.lw_calls.specs.declared.touch.Role.TheVariants.{Slot}
use Rattle.lw_locks.specs.Called.{SteppedEach}
use Rattle.lw_locks.specs.Held.{AreHeld, roles_below}
use Rattle.lw_locks.proofs.Passes.{may_each_still, has_off, roles_back, each_wider}
use Rattle.lw_locks.proofs.Running.{each_none}
use Rattle.lw_locks.proofs.Deeper.{has_task, roles_deeper, held_deeper, apart_mine, held_back, last_back}
use Rattle.lw_locks.proofs.desk.Desk.+under_slots.Goals as goal

pub returns-then-layer-next-clause-stepped : goal.returns-then-layer-next-clause-stepped
returns-then-layer-next-clause-stepped g t c =
    let own = c.args.holder.now in
    each_none g.N.Opening.desk (roles_below own.task g.N.Opening.desk.sizes.slots) own c.args.calls.now c.args.answers.now.items _ c.requires.may.some refl

pub under_slots-done-requires-clause-may : goal.under_slots-done-requires-clause-may
under_slots-done-requires-clause-may g t c κs within =
    let desk = g.N.Opening.desk in
    let mine = c.args.holder.now in
    let theirs = c.layer.inside.seat in
    let both = c.hold.new.holder in
    let place : c.layer.inside.slot ≡ length c.args.cells.now.items = c.if-layer-next.false ∙ (c.len-next.ensures ∙ c.args.cells.now.ok.0) in
    may_each_still desk mine theirs both c.hold.ensures OnAll c.args.calls.now (has_task g.N.Opening.word desk c.layer.inside.slot (length c.args.cells.now.items) mine both theirs c.hold.ensures place c.requires.roles c.layer.invariant.roles) c.requires.may

pub under_slots-done-requires-clause-roles : goal.under_slots-done-requires-clause-roles
under_slots-done-requires-clause-roles g t c κs within =
    let desk = g.N.Opening.desk in
    let mine = c.args.holder.now in
    let both = c.hold.new.holder in
    let k = length c.args.cells.now.items in
    let place : c.layer.inside.slot ≡ k = c.if-layer-next.false ∙ (c.len-next.ensures ∙ c.args.cells.now.ok.0) in
    let more : length c.push_reserved.new.self.items ≡ k + 1 = ap length c.push_reserved.ensures.items ∙ length-append c.args.cells.now.items (c.layer.inside.cell ∷ []) in
    subst (λ n. both.seat.roles ≡ roles_below both.task n) (sym more) (roles_deeper g.N.Opening.word desk c.layer.inside.slot k mine both c.layer.inside.seat c.hold.ensures place c.requires.roles c.layer.invariant.roles)

pub under_slots-done-requires-clause-held : goal.under_slots-done-requires-clause-held
under_slots-done-requires-clause-held g t c κs within =
    let desk = g.N.Opening.desk in
    let mine = c.args.holder.now in
    let both = c.hold.new.holder in
    let cells = c.args.cells.now.items in
    let place : c.layer.inside.slot ≡ length cells = c.if-layer-next.false ∙ (c.len-next.ensures ∙ c.args.cells.now.ok.0) in
    subst (λ cs. AreHeld g.E.Engine.relations desk both.seat c.args.info.now cs) (sym c.push_reserved.ensures.items)
    (held_deeper g.N.Opening.word desk c.layer.inside.slot (length cells) mine both c.layer.inside.seat c.hold.ensures place c.requires.roles c.layer.invariant.roles g.E.Engine.relations c.args.info.now cells c.layer.inside.cell refl c.requires.held c.layer.invariant.number c.layer.invariant.cell)

pub give-seat-requires-clause-role : goal.give-seat-requires-clause-role
give-seat-requires-clause-role g t c κs within =
    has_off g.N.Opening.desk c.args.holder.now c.layer.inside.seat c.hold.new.holder c.hold.ensures (Slot c.layer.inside.slot) c.under_slots-done.new.holder c.layer.invariant.roles c.under_slots-done.ensures.stepped.roles

pub invariant_of-back : goal.invariant_of-back
invariant_of-back g t c =
    let desk = g.N.Opening.desk in
    let mine = c.args.holder.now in
    let k = length c.args.cells.now.items in
    let place : c.layer.inside.slot ≡ k = c.if-layer-next.false ∙ (c.len-next.ensures ∙ c.args.cells.now.ok.0) in
    let deeper = c.under_slots-done.ensures.many in
    let pushed = ap length c.push_reserved.ensures.items ∙ length-append c.args.cells.now.items (c.layer.inside.cell ∷ []) in
    let popped = ap length c.in-Some-pop.ensures.items ∙ length-append c.pop.new.self.items (c.in-Some-pop.cell ∷ []) in
    let many : length c.pop.new.self.items ≡ k = omega (arith, deeper, pushed, popped) in
    last_back g.N.Opening.word desk c.layer.inside.slot k mine c.hold.new.holder c.layer.inside.seat c.hold.ensures place c.requires.roles c.layer.invariant.roles c.under_slots-done.new.holder c.give-seat.new.holder c.give-seat.result c.give-seat.ensures g.E.Engine.relations
    c.under_slots-done.new.info c.under_slots-done.new.cells.items c.pop.new.self.items c.in-Some-pop.cell c.in-Some-pop.ensures.items many c.under_slots-done.ensures.held

pub returns-clause-stepped : goal.returns-clause-stepped
returns-clause-stepped g t c =
    let desk = g.N.Opening.desk in
    let name = g.N.Opening.word in
    let mine = c.args.holder.now in
    let theirs = c.layer.inside.seat in
    let both = c.hold.new.holder in
    let k = length c.args.cells.now.items in
    let slots = desk.sizes.slots in
    let stepped = c.under_slots-done.new.holder in
    let left = c.give-seat.new.holder in
    let off = Slot c.layer.inside.slot in
    let place : c.layer.inside.slot ≡ k = c.if-layer-next.false ∙ (c.len-next.ensures ∙ c.args.cells.now.ok.0) in
    let apart = apart_mine name desk c.layer.inside.slot k mine both theirs c.hold.ensures place c.requires.roles c.layer.invariant.roles in
    let back = roles_back desk mine theirs both c.hold.ensures name off stepped left c.give-seat.result c.layer.invariant.roles c.under_slots-done.ensures.stepped.roles c.give-seat.ensures apart in
    let calls = c.args.calls.now in
    let had = c.args.answers.now.items in
    let has = c.under_slots-done.new.answers.items in
    each_wider desk mine theirs both c.hold.ensures name off stepped left c.give-seat.result (roles_below mine.task slots) calls had has c.under_slots-done.result c.give-seat.ensures back
    (subst (λ n. SteppedEach desk (roles_below n slots) both stepped calls had has c.under_slots-done.result) c.hold.ensures.task c.under_slots-done.ensures.stepped)

pub returns-clause-held : goal.returns-clause-held
returns-clause-held g t c =
    let desk = g.N.Opening.desk in
    let mine = c.args.holder.now in
    let k = length c.args.cells.now.items in
    let place : c.layer.inside.slot ≡ k = c.if-layer-next.false ∙ (c.len-next.ensures ∙ c.args.cells.now.ok.0) in
    let deeper = c.under_slots-done.ensures.many in
    let pushed = ap length c.push_reserved.ensures.items ∙ length-append c.args.cells.now.items (c.layer.inside.cell ∷ []) in
    let popped = ap length c.in-Some-pop.ensures.items ∙ length-append c.pop.new.self.items (c.in-Some-pop.cell ∷ []) in
    let many : length c.pop.new.self.items ≡ k = omega (arith, deeper, pushed, popped) in
    held_back g.N.Opening.word desk c.layer.inside.slot k mine c.hold.new.holder c.layer.inside.seat c.hold.ensures place c.requires.roles c.layer.invariant.roles c.under_slots-done.new.holder c.give-seat.new.holder c.give-seat.result c.give-seat.ensures g.E.Engine.relations
    c.under_slots-done.new.info c.under_slots-done.new.cells.items c.pop.new.self.items c.in-Some-pop.cell c.in-Some-pop.ensures.items many c.under_slots-done.ensures.held
