use Rattle.std.proofs.Common.{◌≡◌, not, ◌&&◌, List, ℤ, get_or, take, sym, ap, ◌∙◌}
use Rattle.std.proofs.lemmas.Bool.{ne_eqb}
use Rattle.std.proofs.lemmas.List.{take_all, take_more}
use Rattle.std.proofs.lemmas.Result.{IfOk-weaker}
use Rattle.lw_region.specs.Rectangle.{Rectangle, has_pixel}
use Rattle.lw_region.specs.Bands.{covers}
use Rattle.lw_region.proofs.Canonical.{covers_nil}
use Rattle.lw_machine.specs.Screen.{bounds_have, screen_bounds}
use Rattle.lw_stack.specs.Stack.{is_top_in}
use Rattle.lw_stack.proofs.ShownLaws.{none_in_front, more_in_front, left_of_entry, never_on_top}
use Rattle.lw_stack.proofs.info.Info.visible_of.Goals as goal

pub loop-front-init : goal.loop-front-init
loop-front-init c = none_in_front c.args.self.now.bounds c.args.slot c.new-covered.result c.new-covered.ensures

pub loop-front-preserved : goal.loop-front-preserved
loop-front-preserved c =
    let order = c.order-order.result.now in
    let i = c.loop-front.front-index in
    rw (take_more order i 0 c.loop-front-test.true)
    (more_in_front c.args.self.now.bounds (take i order) (get_or order i 0) c.args.slot c.loop-front.covered c.cover.new.covered
    c.loop-front.invariant (ne_eqb (get_or order i 0) c.args.slot c.if-front-slot.false)
    (rw c.bounds-bounds.ensures at c.in_ok-cover.ensures.ok))

pub returns-then-front-slot : goal.returns-then-front-slot
returns-then-front-slot c =
    let v = c.args.self.now in
    let order = c.order-order.result.now in
    let slot = c.args.slot in
    let own = c.bounds-bounds.result in
    let part = c.on_screen.result in
    let covered = c.loop-front.covered in
    let P = λ (shown : List Rectangle). (x y : ℤ) → covers shown x y ≡ (bounds_have part x y && not (covers covered x y)) in
    let Q = λ (shown : List Rectangle). (x y : ℤ) → covers shown x y ≡ is_top_in v slot x y in
    let cut : (x y : ℤ) → bounds_have part x y ≡ (has_pixel (screen_bounds v.sizes) x y && bounds_have own x y) = λ x y.
    c.on_screen.ensures x y ∙ ap (λ z. has_pixel (screen_bounds z) x y && bounds_have own x y) c.sizes.ensures.value in
    IfOk-weaker c.uncovered.result P Q
    (λ shown left. left_of_entry v order slot c.loop-front.front-index own part covered shown c.order-order.ensures.value
    c.loop-front-test.true c.if-front-slot.true c.bounds-bounds.ensures c.loop-front.invariant cut left) c.uncovered.ensures

pub returns : goal.returns
returns c = λ x y.
    let order = c.order-order.result.now in
    let all = take_all c.loop-front.front-index order c.loop-front-test.false in
    ap (λ rects. covers rects x y) c.new.ensures
    ∙ (covers_nil x y
    ∙ sym (never_on_top c.args.self.now c.args.slot c.loop-front.covered
    (rw (all, c.order-order.ensures.value) at c.loop-front.invariant) x y))
