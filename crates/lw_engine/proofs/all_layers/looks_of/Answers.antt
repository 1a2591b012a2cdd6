use Rattle.std.proofs.Common.{ℕ, ◌<◌, List, take, get_or, sym, subst, ◌∙◌, arith}
use Rattle.std.specs.List.{All}
use Rattle.std.proofs.lemmas.List.{take_more, take_all}
use Rattle.lw_stack.proofs.ListLaws.{entries_are_slots}
use Rattle.lw_engine.proofs.ArrangingLists.{AreSeen, none_seen, one_more_seen, all_seen}
use Rattle.lw_engine.proofs.all_layers.looks_of.Goals as goal

pub loop-slot-init : goal.loop-slot-init
loop-slot-init g c = none_seen c.args.slots.now c.in_ok-looks.looks.items c.in_ok-looks.ensures

pub look_of-requires : goal.look_of-requires
look_of-requires g c =
    let v = c.args.info.now in
    let order = c.order-order.result.now in
    let i = c.loop-slot.slot-index in
    let slots : List ℕ → Type 0 = λ l. All (λ s. s < v.sizes.slots) l in
    let low = subst slots (sym c.order-order.ensures.value) (entries_are_slots v c.order-order.ensures.stack) i 0 c.loop-slot-test.true in
    omega (arith, low, c.requires.many)

pub index_mut-requires : goal.index_mut-requires
index_mut-requires g c =
    let v = c.args.info.now in
    let order = c.order-order.result.now in
    let slots : List ℕ → Type 0 = λ l. All (λ s. s < v.sizes.slots) l in
    let low = subst slots (sym c.order-order.ensures.value) (entries_are_slots v c.order-order.ensures.stack) c.loop-slot.slot-index 0 c.loop-slot-test.true in
    omega (arith, low, c.requires.many, c.loop-slot.invariant.many, c.loop-slot.looks.ok)

pub loop-slot-preserved : goal.loop-slot-preserved
loop-slot-preserved g c =
    let v = c.args.info.now in
    let order = c.order-order.result.now in
    let i = c.loop-slot.slot-index in
    let slots : List ℕ → Type 0 = λ l. All (λ s. s < v.sizes.slots) l in
    let low = subst slots (sym c.order-order.ensures.value) (entries_are_slots v c.order-order.ensures.stack) i 0 c.loop-slot-test.true in
    rw (take_more order i 0 c.loop-slot-test.true)
    (one_more_seen (take i order) (get_or order i 0) c.args.slots.now c.loop-slot.looks.items c.look_of.result c.loop-slot.invariant
    (omega (arith, low, c.requires.many)) c.look_of.ensures)

pub returns : goal.returns
returns g c =
    let v = c.args.info.now in
    let order = c.order-order.result.now in
    let all = take_all c.loop-slot.slot-index order c.loop-slot-test.false in
    let P : List ℕ → Type 0 = λ l. AreSeen l c.args.slots.now c.loop-slot.looks.items in
    all_seen v c.args.slots.now c.loop-slot.looks.items c.order-order.ensures.stack c.requires.listed
    (subst P (all ∙ c.order-order.ensures.value) c.loop-slot.invariant)
