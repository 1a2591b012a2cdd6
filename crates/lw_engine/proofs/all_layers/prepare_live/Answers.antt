use Rattle.std.proofs.Common.{◌+◌, ◌<◌, ℕ, List, [], ◌∷◌, ◌++◌, take, get_or, sym, ap, subst, ◌∙◌, arith}
use Rattle.std.specs.List.{All}
use Rattle.std.proofs.lemmas.List.{take_more, take_all}
use Rattle.std.proofs.lemmas.List.Elements.{All-nil}
use Rattle.lw_calls.specs.declared.sizes.Sizes.{Sizes}
use Rattle.lw_stack.proofs.ListLaws.{entries_are_slots}
use Rattle.lw_engine.specs.Desks.{AreNumbered}
use Rattle.lw_engine.specs.Slots.{ReadyView}
use Rattle.lw_engine.specs.Arranging.{AreMade}
use Rattle.lw_engine.proofs.ReadyLists.{made_more, left_more, made_as}
use Rattle.lw_engine.proofs.all_layers.prepare_live.Goals.{then-not-is_left+in_ok-prepare_one+in_ok-push, else-not-is_left}
use Rattle.lw_engine.proofs.all_layers.prepare_live.Goals as goal

pub loop-slot-init : goal.loop-slot-init
loop-slot-init g c =
    let P : List ReadyView → Type 0 = λ l. AreMade c.args.arrangement.now c.args.shelf.now c.args.slots.now [] l in
    subst P (sym c.requires.none) (record { each = All-nil _; once = λ s. omega arith; others = λ s has none. absurd (omega (arith, has)) })

pub prepare_one-requires-clause-cells : goal.prepare_one-requires-clause-cells
prepare_one-requires-clause-cells g c =
    let N : Sizes → Type 0 = λ z. AreNumbered z.slots c.args.slots.now in
    subst N (sym c.requires.sizes) c.requires.cells

pub prepare_one-requires-clause-low : goal.prepare_one-requires-clause-low
prepare_one-requires-clause-low g c =
    let v = c.args.info.now in
    let order = c.order-order.result.now in
    let i = c.loop-slot.slot-index in
    let slots : List ℕ → Type 0 = λ l. All (λ s. s < v.sizes.slots) l in
    let low = subst slots (sym c.order-order.ensures.value) (entries_are_slots v c.order-order.ensures.stack) i 0 c.loop-slot-test.true in
    omega (arith, low, c.requires.cells.many)

pub is_left-requires-clause-low : goal.is_left-requires-clause-low
is_left-requires-clause-low g c =
    let v = c.args.info.now in
    let order = c.order-order.result.now in
    let i = c.loop-slot.slot-index in
    let slots : List ℕ → Type 0 = λ l. All (λ s. s < v.sizes.slots) l in
    let low = subst slots (sym c.order-order.ensures.value) (entries_are_slots v c.order-order.ensures.stack) i 0 c.loop-slot-test.true in
    omega (arith, low, c.requires.cells.many)

pub loop-slot-preserved : goal.loop-slot-preserved
loop-slot-preserved g c =
    let v = c.args.info.now in
    let order = c.order-order.result.now in
    let i = c.loop-slot.slot-index in
    let slots : List ℕ → Type 0 = λ l. All (λ s. s < v.sizes.slots) l in
    let low = subst slots (sym c.order-order.ensures.value) (entries_are_slots v c.order-order.ensures.stack) i 0 c.loop-slot-test.true in
    let a = c.args.arrangement.now in
    let shelf = c.args.shelf.now in
    let cells = c.args.slots.now in
    let made = c.loop-slot.made.items in
    let slot = get_or order i 0 in
    let next = sym (take_more order i 0 c.loop-slot-test.true) in
    let P : List ReadyView → Type 0 = λ l. AreMade a shelf cells (take (i + 1) order) l in
    elim c.if-not-is_left.branch [
      | then-not-is_left+in_ok-prepare_one+in_ok-push u ↦ let r = u.in_ok-prepare_one.field-0 in
          subst P (sym (ap (λ m. m.items) u.made-is ∙ u.in_ok-push.ensures.items))
          (made_as a shelf cells _ _ (made ++ r ∷ []) next
          (made_more a shelf cells (take i order) made slot r c.loop-slot.invariant (omega (arith, low, c.requires.cells.many))
          u.in_ok-prepare_one.ensures.0 u.in_ok-prepare_one.ensures.1))
      | else-not-is_left u ↦
          subst P (sym (ap (λ m. m.items) u.made-is))
          (made_as a shelf cells _ _ made next (left_more a shelf cells (take i order) made slot c.loop-slot.invariant (c.is_left.ensures u.if-not-is_left.false)))
    ]

pub returns : goal.returns
returns g c =
    let all = take_all c.loop-slot.slot-index c.order-order.result.now c.loop-slot-test.false in
    let P : List ℕ → Type 0 = λ l. AreMade c.args.arrangement.now c.args.shelf.now c.args.slots.now l c.loop-slot.made.items in
    subst P (all ∙ c.order-order.ensures.value) c.loop-slot.invariant
