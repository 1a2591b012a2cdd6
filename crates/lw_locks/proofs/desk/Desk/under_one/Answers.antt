-- Calls under the lock of one layer.
use Rattle.std.proofs.Common.{◌≡◌, ◌<◌, get_or, [], ◌∷◌, ◌++◌, refl, sym, subst, ap, ◌∙◌}
use Rattle.lw_calls.specs.declared.call.Call.TheVariants.{RegClear}
use Rattle.lw_calls.specs.declared.group.Hold.TheVariants.{Slot as OneSlot}
use Rattle.lw_calls.specs.declared.touch.CallClass.TheVariants.{OnLayer}
use Rattle.lw_calls.specs.declared.touch.Role.TheVariants.{Task, Slot}
use Rattle.lw_engine_trait.proofs.ClassLaws.{slot_fits}
use Rattle.lw_locks.specs.Called.{MayCallEach}
use Rattle.lw_locks.proofs.Passes.{may_own_each, has_own, may_each_still, cell_held, has_off, alone_back, roles_back, apart_alone, layer_back, called_each_back}
use Rattle.lw_locks.proofs.Running.{called_none}
use Rattle.lw_locks.proofs.desk.Desk.under_one.Goals as goal

pub index-requires : goal.index-requires
index-requires g c =
    let calls = c.args.calls.now in
    let may = c.requires.may in
    let none = RegClear 0 in
    subst (λ n. c.args.slot < n) (sym c.args.self.now.many) (slot_fits g.N.Opening.desk.sizes (get_or calls 0 none) c.args.slot (may.class 0 none may.some) (may.fits 0 none may.some))

pub returns-then-layer-slot : goal.returns-then-layer-slot
returns-then-layer-slot g c = called_none g.N.Opening.desk (OneSlot c.args.slot) c.args.pass.now c.args.calls.now c.args.answers.now.items _ c.requires.may.some refl

pub each_on_layer-done-requires-clause-may : goal.each_on_layer-done-requires-clause-may
each_on_layer-done-requires-clause-may g c κs within =
    let own = c.pass.inside.holder in
    let desk = g.N.Opening.desk in
    let kind = OnLayer c.args.slot in
    let calls = c.args.calls.now in
    let both = c.hold.new.holder in
    let may = may_each_still desk own c.layer.inside.seat both c.hold.ensures kind calls (has_own own c.pass.invariant) (may_own_each desk own c.args.pass.now c.pass.invariant c.pass.view_is kind calls c.requires.may) in
    subst (λ n. MayCallEach desk (OnLayer n) both.task both.seat.history calls) (sym (c.layer.invariant.number ∙ c.if-layer-slot.false)) may

pub each_on_layer-done-requires-clause-cell : goal.each_on_layer-done-requires-clause-cell
each_on_layer-done-requires-clause-cell g c κs within =
    cell_held g.N.Opening.desk c.pass.inside.holder c.layer.inside.seat c.hold.new.holder c.hold.ensures g.E.Engine.relations c.layer.inside.cell c.layer.invariant.cell

pub give-seat-requires-clause-role : goal.give-seat-requires-clause-role
give-seat-requires-clause-role g c κs within =
    has_off g.N.Opening.desk c.pass.inside.holder c.layer.inside.seat c.hold.new.holder c.hold.ensures (Slot c.layer.inside.slot) c.each_on_layer-done.new.holder c.layer.invariant.roles c.each_on_layer-done.ensures.stepped.roles

pub invariant_of-back : goal.invariant_of-back
invariant_of-back g c =
    let e = c.each_on_layer-done.ensures in
    layer_back g.E.Engine.relations g.N.Opening.word g.N.Opening.desk c.layer.inside.slot c.each_on_layer-done.new.holder c.give-seat.new.holder c.give-seat.result c.each_on_layer-done.new.cell c.give-seat.ensures (e.number ∙ c.layer.invariant.number) e.cell

pub invariant_of-pass : goal.invariant_of-pass
invariant_of-pass g c =
    let e = c.each_on_layer-done.ensures.stepped in
    alone_back g.N.Opening.desk c.pass.inside.holder c.layer.inside.seat c.hold.new.holder c.hold.ensures g.N.Opening.word (Slot c.layer.inside.slot) c.each_on_layer-done.new.holder c.give-seat.new.holder c.give-seat.result c.layer.invariant.roles e.roles e.task c.give-seat.ensures c.pass.invariant refl

pub returns : goal.returns
returns g c =
    let own = c.pass.inside.holder in
    let desk = g.N.Opening.desk in
    let name = g.N.Opening.word in
    let theirs = c.layer.inside.seat in
    let both = c.hold.new.holder in
    let off = Slot c.layer.inside.slot in
    let stepped = c.each_on_layer-done.new.holder in
    let left = c.give-seat.new.holder in
    let e = c.each_on_layer-done.ensures.stepped in
    let back = roles_back desk own theirs both c.hold.ensures name off stepped left c.give-seat.result c.layer.invariant.roles e.roles c.give-seat.ensures (apart_alone off own c.pass.invariant refl) in
    let roles : both.seat.roles ≡ Task own.task ∷ Slot c.args.slot ∷ [] =
    c.hold.ensures.joined.roles ∙ (ap (λ rs. rs ++ theirs.roles) c.pass.invariant ∙ ap (λ rs. Task own.task ∷ rs) (c.layer.invariant.roles ∙ ap (λ s. Slot s ∷ []) c.if-layer-slot.false)) in
    called_each_back desk own c.args.pass.now c.pass.invariant c.pass.view_is (OneSlot c.args.slot) name off theirs both stepped left c.give-seat.result both.seat.roles c.args.calls.now c.args.answers.now.items c.each_on_layer-done.new.answers.items c.each_on_layer-done.result
    c.hold.ensures c.give-seat.ensures back roles e
