use Rattle.std.proofs.Common.{ℕ, get_or, take, ◌∙◌, sym, ap, arith}
use Rattle.lw_calls.specs.declared.sizes.Sizes.{Sizes}
use Rattle.lw_engine.proofs.FinishedLast.{cell_read}
use Rattle.lw_engine.proofs.ScreenPartLaws.{part_may, entry_inside, part_none, part_size, near_deep, part_more, part_whole}
use Rattle.lw_engine.proofs.composing.composed.Goals as goal

pub new-requires : goal.new-requires
new-requires g c =
    let sizes = c.args.info.now.sizes in
    part_may sizes c.args.rect.now c.width.result c.height.result c.sizes-sizes.result.now.depth c.width.ensures.value
    c.height.ensures.value (ap (λ (z : Sizes). z.depth) c.sizes-sizes.ensures.value) c.sizes-sizes.ensures.stack.limits c.width.ensures.ordered
    c.requires.inside

pub loop-slot-init : goal.loop-slot-init
loop-slot-init g c = λ d stands.
    part_none d c.args.rect.now c.width.result c.height.result c.sizes-sizes.result.now.depth c.in_ok-planes.planes c.width.ensures.value
    c.height.ensures.value (ap (λ (z : Sizes). z.depth) (c.sizes-sizes.ensures.value ∙ sym stands.sizes)) c.in_ok-planes.ensures

pub offset_bounds-slots-slot : goal.offset_bounds-slots-slot
offset_bounds-slots-slot g c =
    let below = entry_inside c.args.info.now c.args.slots.now c.order-order.result.now c.loop-slot.slot-index c.order-order.ensures.stack
    c.order-order.ensures.value c.requires.many c.loop-slot-test.true in
    omega (arith, below)

pub bounds-slots-slot : goal.bounds-slots-slot
bounds-slots-slot g c =
    entry_inside c.args.info.now c.args.slots.now c.order-order.result.now c.loop-slot.slot-index c.order-order.ensures.stack
    c.order-order.ensures.value c.requires.many c.loop-slot-test.true

pub lay_all-requires-clause-size : goal.lay_all-requires-clause-size
lay_all-requires-clause-size g c =
    part_size c.requires.desk.0 c.args.rect.now (take c.loop-slot.slot-index c.order-order.result.now) c.loop-slot.planes
    (c.loop-slot.invariant c.requires.desk.0 c.requires.desk.1)

pub lay_all-requires-clause-planes : goal.lay_all-requires-clause-planes
lay_all-requires-clause-planes g c =
    let cells = c.args.slots.now in
    let order = c.order-order.result.now in
    let s : ℕ = get_or order c.loop-slot.slot-index 0 in
    let inside = entry_inside c.args.info.now cells order c.loop-slot.slot-index c.order-order.ensures.stack c.order-order.ensures.value
    c.requires.many c.loop-slot-test.true in
    near_deep c.args.info.now cells c.requires.desk.0 c.args.rect.now (take c.loop-slot.slot-index order) c.bounds-bounds.result s
    c.index-slots-slot.result c.strips_near.result.now c.loop-slot.planes c.requires.desk.1 (omega (arith, inside, c.requires.many))
    (cell_read cells s c.index-slots-slot.result inside c.index-slots-slot.is) c.strips_near.ensures
    (c.loop-slot.invariant c.requires.desk.0 c.requires.desk.1)

pub loop-slot-preserved : goal.loop-slot-preserved
loop-slot-preserved g c = λ d stands.
    let cells = c.args.slots.now in
    let order = c.order-order.result.now in
    let s : ℕ = get_or order c.loop-slot.slot-index 0 in
    let inside = entry_inside c.args.info.now cells order c.loop-slot.slot-index c.order-order.ensures.stack c.order-order.ensures.value
    c.requires.many c.loop-slot-test.true in
    part_more c.args.info.now cells d c.args.rect.now order c.loop-slot.slot-index c.bounds-bounds.result c.index-slots-slot.result
    c.strips_near.result.now c.loop-slot.planes c.lay_all.new.planes stands c.width.ensures.ordered c.requires.inside c.loop-slot-test.true
    (omega (arith, inside, c.requires.many)) c.bounds-bounds.ensures
    (cell_read cells s c.index-slots-slot.result inside c.index-slots-slot.is) c.strips_near.ensures (c.loop-slot.invariant d stands)
    c.lay_all.ensures

pub returns : goal.returns
returns g c = λ d stands.
    part_whole c.args.info.now c.args.slots.now d c.args.rect.now c.order-order.result.now c.loop-slot.slot-index c.loop-slot.planes stands
    c.width.ensures.ordered c.requires.inside c.order-order.ensures.value c.loop-slot-test.false (c.loop-slot.invariant d stands)
