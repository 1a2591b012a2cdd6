use Rattle.std.proofs.Common.{ℕ, ◌+◌, ◌<◌, List, length, take, get_or, refl, ◌∙◌, sym, subst, arith}
use Rattle.std.specs.List.{All}
use Rattle.std.proofs.lemmas.List.{take_more, take_all}
use Rattle.lw_calls.specs.Orders.{occurrences}
use Rattle.lw_layer.specs.View.{CellView}
use Rattle.lw_layer.specs.Windows.{HasRoom}
use Rattle.lw_stack.proofs.ListLaws.{entries_are_slots}
use Rattle.lw_engine.specs.Desks.{cell_at, AreAsBefore}
use Rattle.lw_engine.proofs.RoomLaws.{same_length, more_as_before, more_room, all_room}
use Rattle.lw_engine.proofs.all_layers.reserve_all.Goals as goal

pub loop-slot-init : goal.loop-slot-init
loop-slot-init g c = (refl, λ s has. absurd (omega (arith, has)))

pub reserve_one-requires : goal.reserve_one-requires
reserve_one-requires g c =
    let v = c.args.info.now in
    let order = c.order-order.result.now in
    let i = c.loop-slot.slot-index in
    let slot = get_or order i 0 in
    let slots : List ℕ → Type 0 = λ l. All (λ s. s < v.sizes.slots) l in
    let low = subst slots (sym c.order-order.ensures.value) (entries_are_slots v c.order-order.ensures.stack) i 0 c.loop-slot-test.true in
    let now = c.loop-slot.slots in
    let inside : slot < length now = omega (arith, low, c.requires.many, same_length c.args.slots.now now c.loop-slot.invariant.0) in
    inside

pub returns-in_err-reserve_one-clause-cells : goal.returns-in_err-reserve_one-clause-cells
returns-in_err-reserve_one-clause-cells g c =
    let now = c.loop-slot.slots in
    let slot = get_or c.order-order.result.now c.loop-slot.slot-index 0 in
    let P : List CellView → Type 0 = λ l. AreAsBefore c.args.slots.now l in
    subst P (sym c.reserve_one.ensures.slots)
    (more_as_before c.args.slots.now now slot (cell_at c.reserve_one.new.slots slot) c.loop-slot.invariant.0 c.reserve_one.ensures.cell)

pub loop-slot-preserved : goal.loop-slot-preserved
loop-slot-preserved g c =
    let v = c.args.info.now in
    let order = c.order-order.result.now in
    let i = c.loop-slot.slot-index in
    let slot = get_or order i 0 in
    let slots : List ℕ → Type 0 = λ l. All (λ s. s < v.sizes.slots) l in
    let low = subst slots (sym c.order-order.ensures.value) (entries_are_slots v c.order-order.ensures.stack) i 0 c.loop-slot-test.true in
    let now = c.loop-slot.slots in
    let inside : slot < length now = omega (arith, low, c.requires.many, same_length c.args.slots.now now c.loop-slot.invariant.0) in
    let new = c.reserve_one.new.slots in
    let P : List CellView → Type 0 =
    λ l. AreAsBefore c.args.slots.now l × ((s : ℕ) → 0 < occurrences s (take (i + 1) order) → HasRoom 5 (cell_at l s)) in
    subst P (sym c.reserve_one.ensures.slots)
    (rw (take_more order i 0 c.loop-slot-test.true) (
      more_as_before c.args.slots.now now slot (cell_at new slot) c.loop-slot.invariant.0 c.reserve_one.ensures.cell,
      more_room now (take i order) slot (cell_at new slot) inside c.loop-slot.invariant.1 (c.in_ok-reserve_one.ensures {u = tt}).room,
    ))

pub returns-clause-room : goal.returns-clause-room
returns-clause-room g c =
    let v = c.args.info.now in
    let order = c.order-order.result.now in
    let all = take_all c.loop-slot.slot-index order c.loop-slot-test.false in
    let P : List ℕ → Type 0 = λ l. (s : ℕ) → 0 < occurrences s l → HasRoom 5 (cell_at c.loop-slot.slots s) in
    all_room v c.args.slots.now c.loop-slot.slots c.order-order.ensures.stack c.requires.listed c.loop-slot.invariant.0
    (subst P (all ∙ c.order-order.ensures.value) c.loop-slot.invariant.1)
