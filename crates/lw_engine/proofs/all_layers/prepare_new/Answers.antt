use Rattle.std.proofs.Common.{◌≡◌, ◌+◌, ◌<◌, ℕ, List, [], ◌∷◌, ◌++◌, append-nil, not, true, false, take, get_or, sym, ap, subst, ◌∙◌, arith}
use Rattle.std.specs.List.{All, filter}
use Rattle.std.proofs.lemmas.List.{take_all}
use Rattle.lw_calls.specs.declared.sizes.Sizes.{Sizes}
use Rattle.lw_machine.specs.Reveal.{has_bounds}
use Rattle.lw_stack.proofs.ListLaws.{entries_are_slots}
use Rattle.lw_engine.specs.Desks.{AreNumbered}
use Rattle.lw_engine.specs.Slots.{ReadyView}
use Rattle.lw_engine.specs.Arranging.{AreMade, is_idle}
use Rattle.lw_engine.proofs.ReadyLists.{made_more, made_as, idle_by, next_idle, all_ready}
use Rattle.lw_engine.proofs.all_layers.prepare_new.Goals.{then-is_none+in_ok-prepare_one+in_ok-push, else-is_none}
use Rattle.lw_engine.proofs.all_layers.prepare_new.Goals as goal

pub loop-slot-init : goal.loop-slot-init
loop-slot-init g c =
    made_as c.args.arrangement.now c.args.shelf.now c.args.slots.now _ _ c.args.made.now.items (sym (append-nil _)) c.requires.live

pub prepare_one-requires-clause-cells : goal.prepare_one-requires-clause-cells
prepare_one-requires-clause-cells g c =
    let N : Sizes → Type 0 = λ z. AreNumbered z.slots c.args.slots.now in
    subst N (sym c.requires.sizes) c.requires.cells

pub prepare_one-requires-clause-low : goal.prepare_one-requires-clause-low
prepare_one-requires-clause-low g c =
    let v = c.args.info.now in
    let a = c.args.arrangement.now in
    let w = a.stack in
    let order = c.order-order.result.now in
    let i = c.loop-slot.slot-index in
    let slots : List ℕ → Type 0 = λ l. All (λ s. s < w.sizes.slots) l in
    let low = subst slots (sym c.order-order.ensures) (entries_are_slots w c.sizes-2.ensures.planned.stack) i 0 c.loop-slot-test.true in
    omega (arith, low, c.requires.cells.many, ap (λ (z : Sizes). z.slots) c.requires.sizes)

pub loop-slot-preserved : goal.loop-slot-preserved
loop-slot-preserved g c =
    let v = c.args.info.now in
    let a = c.args.arrangement.now in
    let order = c.order-order.result.now in
    let i = c.loop-slot.slot-index in
    let slots : List ℕ → Type 0 = λ l. All (λ s. s < a.stack.sizes.slots) l in
    let low = subst slots (sym c.order-order.ensures) (entries_are_slots a.stack c.sizes-2.ensures.planned.stack) i 0 c.loop-slot-test.true in
    let shelf = c.args.shelf.now in
    let cells = c.args.slots.now in
    let made = c.loop-slot.made.items in
    let slot = get_or order i 0 in
    let us = v.front_to_back ++ filter (is_idle v) (take i order) in
    let idle : is_idle v slot ≡ c.is_none.result =
    ap (λ o. not (has_bounds o)) (sym c.bounds.ensures) ∙ idle_by c.bounds.result c.is_none.result c.is_none.ensures in
    let P : List ReadyView → Type 0 = λ l. AreMade a shelf cells (v.front_to_back ++ filter (is_idle v) (take (i + 1) order)) l in
    elim c.if-is_none.branch [
      | then-is_none+in_ok-prepare_one+in_ok-push u ↦ let r = u.in_ok-prepare_one.field-0 in
          subst P (sym (ap (λ m. m.items) u.made-is ∙ u.in_ok-push.ensures.items))
          (made_as a shelf cells (us ++ slot ∷ []) _ (made ++ r ∷ []) (next_idle v order i true c.loop-slot-test.true (idle ∙ u.if-is_none.true))
          (made_more a shelf cells us made slot r c.loop-slot.invariant (omega (arith, low, c.requires.cells.many, ap (λ (z : Sizes). z.slots) c.requires.sizes))
          u.in_ok-prepare_one.ensures.0 u.in_ok-prepare_one.ensures.1))
      | else-is_none u ↦
          subst P (sym (ap (λ m. m.items) u.made-is))
          (made_as a shelf cells us _ made (sym (append-nil us) ∙ next_idle v order i false c.loop-slot-test.true (idle ∙ u.if-is_none.false)) c.loop-slot.invariant)
    ]

pub returns : goal.returns
returns g c =
    let v = c.args.info.now in
    let a = c.args.arrangement.now in
    let all = take_all c.loop-slot.slot-index c.order-order.result.now c.loop-slot-test.false in
    let P : List ℕ → Type 0 =
    λ l. AreMade a c.args.shelf.now c.args.slots.now (v.front_to_back ++ filter (is_idle v) l) c.loop-slot.made.items in
    all_ready v a c.args.shelf.now c.args.slots.now c.loop-slot.made.items c.sizes.ensures.stack c.sizes-2.ensures.planned.stack
    (subst P (all ∙ c.order-order.ensures) c.loop-slot.invariant)
