use Rattle.std.proofs.Common.{◌+◌, w32, get_or, take, drop, refl, sym, ap, ◌∙◌}
use Rattle.std.proofs.lemmas.Int.{to_z-of_z}
use Rattle.std.proofs.lemmas.List.{take_more}
use Rattle.lw_stack.specs.Stack.{first_at}
use Rattle.lw_stack.proofs.FirstLaws.{around_entry, first_found, none_found}
use Rattle.lw_stack.proofs.info.Info.first.Goals as goal

pub loop-slot-init : goal.loop-slot-init
unfolding first_at
loop-slot-init c = refl

pub returns-then-bounds_have : goal.returns-then-bounds_have
returns-then-bounds_have c =
    let bounds = c.args.self.now.bounds in
    let order = c.order-order.result.now in
    let i = c.loop-slot.slot-index in
    let x = c.args.x in
    let y = c.args.y in
    let parts = sym c.order-order.ensures.value ∙ around_entry order i c.loop-slot-test.true in
    let none = rw (to_z-of_z w32 c.args.x c.ranges.x, to_z-of_z w32 c.args.y c.ranges.y) at c.loop-slot.invariant in
    let has = rw (c.bounds.ensures, to_z-of_z w32 c.args.x c.ranges.x, to_z-of_z w32 c.args.y c.ranges.y)
    at (sym c.bounds_have.ensures ∙ c.if-bounds_have.true) in
    sym (ap (λ slots. first_at bounds slots x y) parts
    ∙ first_found bounds (take i order) (get_or order i 0) (drop (i + 1) order) x y none has)

pub loop-slot-preserved : goal.loop-slot-preserved
loop-slot-preserved c =
    let order = c.order-order.result.now in
    let i = c.loop-slot.slot-index in
    rw (take_more order i 0 c.loop-slot-test.true)
    (none_found c.args.self.now.bounds (take i order) (get_or order i 0) _ _ c.loop-slot.invariant
    (rw c.bounds.ensures at (sym c.bounds_have.ensures ∙ c.if-bounds_have.false)))
