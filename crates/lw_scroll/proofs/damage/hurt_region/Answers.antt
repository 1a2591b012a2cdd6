use Rattle.std.proofs.Common.{◌≡◌, not, ◌&&◌, ℤ, pos, ◌+ℤ◌, ◌-ℤ◌, ◌∙◌, sym, ap, subst, arith, to_z, of_z, w32, List}
use Rattle.std.proofs.lemmas.Int.{ints}
use Rattle.std.proofs.lemmas.Bool.{and_parts}
use Rattle.std.proofs.lemmas.Result.{IfOk-weaker}
use Rattle.lw_region.specs.Rectangle.{Rectangle, has_pixel, IsWord}
use Rattle.lw_region.specs.Bands.{covers}
use Rattle.lw_region.specs.Regions.{moved_list}
use Rattle.lw_region.proofs.Moving.{moved_lists}
use Rattle.lw_region.proofs.SetOps.{combined_lists}
use Rattle.lw_scroll.specs.Marks.{LeadToHurt}
use Rattle.lw_scroll.proofs.MarkLaws.{alone_pixel}
use Rattle.lw_scroll.proofs.damage.hurt_region.Goals as goal

-- a word, asked of a sum in place of a difference
word_of_sum : (z by back : ℤ) → back ≡ pos 0 -ℤ by → IsWord (z -ℤ by) → IsWord (z +ℤ back)
word_of_sum z by back is word = let P : ℤ → Type 0 = λ w. IsWord w in subst P (omega (arith, ints, is)) word

-- the pixels of the source that are damaged or not kept
hurt_is : (a b k f made : List Rectangle) (r : Rectangle) (x y : ℤ) → covers a x y ≡ (covers k x y && not (covers f x y))
    → covers b x y ≡ has_pixel r x y → covers made x y ≡ (covers b x y && not (covers a x y))
    → covers made x y ≡ (has_pixel r x y && not (covers k x y && not (covers f x y)))
hurt_is a b k f made r x y first second third =
    third ∙ (ap (λ t. t && not (covers a x y)) second ∙ ap (λ t. has_pixel r x y && not t) first)

pub moved_region-requires-clause-words : goal.moved_region-requires-clause-words
moved_region-requires-clause-words c = λ x y has.
    let source = c.args.source.now in
    let left = (combined_lists.differences _ _ _ c.in_ok-clear_region-2.ensures.list).pixels x y in
    let alone = alone_pixel c.new-hurt.result _ source x y c.new-hurt.ensures c.in_ok-or_rect.ensures.list in
    let inside = sym alone ∙ (and_parts _ _ (sym left ∙ (sym (ap (λ l. covers l x y) c.rects.ensures.value) ∙ has))).0 in
    let words = c.requires.words x y inside in
    (word_of_sum x c.args.dx _ (omega (arith, ints)) words.0, word_of_sum y c.args.dy _ (omega (arith, ints)) words.1)

pub returns : goal.returns
returns c =
    let source = c.args.source.now in
    let kept = c.args.kept in
    let former = c.args.former.now in
    let back_x = to_z w32 (of_z w32 (pos 0 -ℤ to_z w32 (of_z w32 c.args.dx))) in
    let back_y = to_z w32 (of_z w32 (pos 0 -ℤ to_z w32 (of_z w32 c.args.dy))) in
    IfOk-weaker c.moved_region.result (λ made. made ≡ moved_list c.rects.result.now back_x back_y)
    (λ made. LeadToHurt kept former source c.args.dx c.args.dy made)
    (λ made is x y.
    let column : x -ℤ back_x ≡ x +ℤ c.args.dx = omega (arith, ints) in
    let row : y -ℤ back_y ≡ y +ℤ c.args.dy = omega (arith, ints) in
    let across = x +ℤ c.args.dx in
    let down = y +ℤ c.args.dy in
    let sound = (combined_lists.differences kept former _ c.in_ok-clear_region.ensures.list).pixels across down in
    let alone = alone_pixel c.new-hurt.result _ source across down c.new-hurt.ensures c.in_ok-or_rect.ensures.list in
    let left = (combined_lists.differences _ _ _ c.in_ok-clear_region-2.ensures.list).pixels across down in
    ap (λ (l : List Rectangle). covers l x y) is
    ∙ (moved_lists.0 c.rects.result.now back_x back_y x y
    ∙ (ap (λ u. covers c.rects.result.now u (y -ℤ back_y)) column
    ∙ (ap (λ w. covers c.rects.result.now across w) row
    ∙ (ap (λ l. covers l across down) c.rects.ensures.value
    ∙ hurt_is c.clear_region.new.into c.or_rect.new.self kept former c.clear_region-2.new.into source across down sound alone left)))))
    c.moved_region.ensures
