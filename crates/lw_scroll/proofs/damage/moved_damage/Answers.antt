use Rattle.std.proofs.Common.{◌≡◌, true, ℤ, ◌+ℤ◌, ◌-ℤ◌, ◌∙◌, ap, subst, arith, to_z, of_z, w32, List, Bool, Option}
use Rattle.std.proofs.lemmas.Int.{ints, to_z-of_z}
use Rattle.std.proofs.lemmas.Result.{IfOk-weaker}
use Rattle.lw_region.specs.Rectangle.{Rectangle, has_pixel, IsWord}
use Rattle.lw_damage.specs.Damaged.{IsDamageWith}
use Rattle.lw_scroll.specs.Marks.{LeadToHurt, AreDue, IsMovedDamage, AreShifted}
use Rattle.lw_scroll.proofs.MarkLaws.{steps_moved}
use Rattle.lw_scroll.proofs.damage.moved_damage.Goals as goal

-- back and there
back_there : (z by : ℤ) → (z -ℤ by) +ℤ by ≡ z
back_there z by = omega (arith, ints)

-- the places that lead to the source are words
words_back : (target source : Rectangle) (dx dy : ℤ) → AreShifted target source dx dy → (x y : ℤ) → has_pixel source x y ≡ true
    → IsWord (x -ℤ dx) × IsWord (y -ℤ dy)
words_back target source dx dy are x y has =
    are.words (x -ℤ dx) (y -ℤ dy)
    (are.pixels (x -ℤ dx) (y -ℤ dy)
    ∙ (ap (λ u. has_pixel source u ((y -ℤ dy) +ℤ dy)) (back_there x dx)
    ∙ (ap (λ v. has_pixel source x v) (back_there y dy) ∙ has)))

pub hurt_region-requires-clause-words : goal.hurt_region-requires-clause-words
hurt_region-requires-clause-words c =
    rw (to_z-of_z w32 c.args.dx c.ranges.dx, to_z-of_z w32 c.args.dy c.ranges.dy)
    (words_back c.args.target.now c.args.source.now c.args.dx c.args.dy c.requires.shifted)

pub returns : goal.returns
returns c =
    let v = c.args.layer.now in
    let former = c.args.former.now in
    let target = c.args.target.now in
    let source = c.args.source.now in
    let kept = c.in_ok-kept.kept in
    let reached = c.in_ok-reached.reached in
    let hurt = c.in_ok-hurt.hurt in
    let due = c.in_ok-due.due in
    let P : List Rectangle → Type 0 =
    λ l. LeadToHurt kept l source (to_z w32 (of_z w32 c.args.dx)) (to_z w32 (of_z w32 c.args.dy)) hurt
    in
    let lead : LeadToHurt kept former.rects source c.args.dx c.args.dy hurt =
    rw (to_z-of_z w32 c.args.dx c.ranges.dx, to_z-of_z w32 c.args.dy c.ranges.dy) at
    (subst P c.region.ensures.value c.in_ok-hurt.ensures)
    in
    let Q : List Rectangle → Type 0 = λ l. AreDue l reached hurt due in
    let parts : AreDue former.rects reached hurt due = subst Q c.region-2.ensures.value c.in_ok-due.ensures in
    IfOk-weaker c.of_region.result (λ d. IsDamageWith c.inner.result due c.updating.result d)
    (λ d. IsMovedDamage v target c.args.dx c.args.dy d)
    (λ d made.
    let R : Option Rectangle → Type 0 = λ o. IsDamageWith o due c.updating.result d in
    let S : Bool → Type 0 = λ on. IsDamageWith former.inner due on d in
    steps_moved v former d target source c.args.dx c.args.dy kept reached hurt due c.requires.former c.in_ok-kept.ensures c.requires.shifted.pixels
    c.in_ok-reached.ensures lead parts (subst S c.updating.ensures (subst R c.inner.ensures made)))
    c.of_region.ensures
