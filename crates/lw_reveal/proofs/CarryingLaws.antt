-- New strips and buffers with the pens that a layer keeps.
use Rattle.std.proofs.Common.{if◌then◌else◌, subst, refl, negsuc, true, Option, nat_lt, ◌≡◌, ℕ, ◌+◌, ◌-◌, ◌<◌, ◌≤◌, Bool, false, List, [], ◌∷◌, ◌++◌, map, length, take, drop, get_or, Some, None, ◌∙◌, sym, ap, arith, ⊎_elim, ℤ, pos, ◌+ℤ◌}
use Rattle.std.proofs.lemmas.Bool.{cases_lt}
use Rattle.std.proofs.lemmas.List.{get_or_append_left, get_or-append_right, get_or_default, get_or_at, get_or-map, get_or-take, get_or-drop, length-map, length-drop, length-take-le, map-append, take_more}
use Rattle.lw_strips.specs.Strips.{StripView, held_by, rects_of}
use Rattle.lw_region.specs.Rectangle.{Rectangle, width, height}
use Rattle.lw_planes.specs.Bitmap.{Bitmap, bitmap, pen_at}
use Rattle.lw_planes.proofs.BitmapLaws.{bitmap_same, pen_at_bitmap}
use Rattle.std.proofs.lemmas.Int.{ints}
use Rattle.std.proofs.lemmas.Bool.Decides.{nat_tests}
use Rattle.lw_machine.specs.Kept.{is_kept}
use Rattle.lw_calls.specs.declared.make.Kind.{Kind}
use Rattle.lw_calls.specs.declared.make.Kind.TheVariants.{Simple, Smart, SuperBitmap}
use Rattle.lw_planes.specs.Spares.{HasSizes}
use Rattle.lw_calls.specs.Kinds.{is_super}
use Rattle.lw_layer.specs.Looks.{IsLook}
use Rattle.lw_layer.specs.StandsFor.{IsSound}
use Rattle.lw_layer.specs.declared.look.Look.{Look}
use Rattle.lw_layer.specs.View.{LiveView, keeps, kept_pen}
use Rattle.lw_layer.specs.Copied.{pen_over, with_kept}
use Rattle.lw_reveal.specs.Changes.{layer_place, carried}
use Rattle.lw_layer.specs.Drafts.{no_bitmap}
use Rattle.lw_reveal.specs.Carrying.{IsNewStrip, AreNew, AreNewStrips, AreBothNew, KeepsAll, LiesWithin, IsForPens}

-- a pixel without a pen has pen 0
over_ready : (old : ℕ) (pen : Option ℕ) → (pen ≡ None → old ≡ 0) → pen_over old pen ≡ pen_over 0 pen
over_ready old None rest = rest refl
over_ready old (Some pen) rest = refl

-- What the layer keeps, laid on a bitmap for it that begins at a rectangle's corner, is what is carried into the rectangle.
pub carried_kept : (c : LiveView) (bounds r : Rectangle) (x y : ℤ) (b new : Bitmap)
    → IsForPens c x y (width r) (height r) b
    → ((i : ℕ) → x +ℤ pos i ≡ layer_place r.min_x bounds.min_x c.layer.scroll_x i)
    → ((j : ℕ) → y +ℤ pos j ≡ layer_place r.min_y bounds.min_y c.layer.scroll_y j)
    → new ≡ with_kept c x y b → new ≡ carried c bounds r
carried_kept c bounds r x y b new for across down is =
    let F : ℕ → ℕ → ℕ = λ i j. pen_over (pen_at b i j) (kept_pen c (x +ℤ pos i) (y +ℤ pos j)) in
    is ∙
    (ap (λ n. bitmap n b.height b.depth F) for.sizes.wide ∙
    (ap (λ n. bitmap (width r) n b.depth F) for.sizes.high ∙
    (ap (λ n. bitmap (width r) (height r) n F) for.sizes.deep ∙
    bitmap_same (width r) (height r) c.layer.bits.depth _ _
    (λ i j left low.
    over_ready (pen_at b i j) (kept_pen c (x +ℤ pos i) (y +ℤ pos j)) (for.rest i j left low) ∙
    (ap (λ u. pen_over 0 (kept_pen c u (y +ℤ pos j))) (across i) ∙
    ap (λ v. pen_over 0 (kept_pen c (layer_place r.min_x bounds.min_x c.layer.scroll_x i) v)) (down j))))))

-- a blank bitmap is for any pens
pub blank_for : (c : LiveView) (x y : ℤ) (w h : ℕ) (b : Bitmap) → b ≡ bitmap w h c.layer.bits.depth (λ _ _. 0) → IsForPens c x y w h b
blank_for c x y w h b blank =
    let P : Bitmap → Type 0 = λ q. IsForPens c x y w h q in
    subst P (sym blank) (record {
      sizes = record {
        wide = refl;
        high = refl;
        deep = refl;
      };
      rest = λ i j left low none. pen_at_bitmap w h c.layer.bits.depth (λ _ _. 0) i j left low;
    })

-- a pixel that is kept has a pen
kept_there : (c : LiveView) (x y : ℤ) (w h : ℕ) → KeepsAll c w h → LiesWithin x 1 w → LiesWithin y 1 h → kept_pen c x y ≡ None → ⊥
kept_there c (pos u) (pos v) w h all left low none =
    let is : keeps c u v ≡ true = all u v (omega (arith, ints, left)) (omega (arith, ints, low)) in
    let some : Some (pen_at c.layer.bits u v) ≡ None = rw is at none in
    cc some
kept_there c (pos u) (negsuc v) w h all left low none = absurd (omega (arith, ints, low))
kept_there c (negsuc u) y w h all left low none = absurd (omega (arith, ints, left))

-- a bitmap with any pens is for pixels that are all kept
pub kept_for : (c : LiveView) (x y : ℤ) (w h kept_w kept_h : ℕ) (b : Bitmap) → HasSizes w h c.layer.bits.depth b
    → KeepsAll c kept_w kept_h → LiesWithin x w kept_w → LiesWithin y h kept_h → IsForPens c x y w h b
kept_for c x y w h kept_w kept_h b sizes all left low = record {
  sizes = sizes;
  rest = λ i j in_row in_column none.
      absurd (kept_there c (x +ℤ pos i) (y +ℤ pos j) kept_w kept_h all
      (record { from = omega (arith, ints, left); upto = omega (arith, ints, left) })
      (record { from = omega (arith, ints, low); upto = omega (arith, ints, low) }) none);
}

-- a pixel of the bits of a layer that isn't a simple one is kept
pub bits_kept : (c : LiveView) (kind : Kind) (w h : ℕ) → c.layer.kind ≡ kind → (kind ≡ Simple → ⊥) → w ≡ c.layer.bits.width → h ≡ c.layer.bits.height
    → KeepsAll c w h
unfolding keeps is_kept
bits_kept c Simple w h is other wide high u v left low = absurd (other refl)
bits_kept c Smart w h is other wide high u v left low =
    let column : nat_lt u c.layer.bits.width ≡ true = grind (arith, nat_tests) in
    let row : nat_lt v c.layer.bits.height ≡ true = grind (arith, nat_tests) in
    rw (is, column, row) refl
bits_kept c SuperBitmap w h is other wide high u v left low =
    let column : nat_lt u c.layer.bits.width ≡ true = grind (arith, nat_tests) in
    let row : nat_lt v c.layer.bits.height ≡ true = grind (arith, nat_tests) in
    rw (is, column, row) refl

-- a smart layer keeps all pixels of its bounds
pub smart_kept : (c : LiveView) (k : Look) (w h : ℕ) → k.kind ≡ Smart → IsLook c k → IsSound c → w ≡ width k.bounds → h ≡ height k.bounds → KeepsAll c w h
smart_kept c k w h smart sees sound wide high =
    let is : c.layer.kind ≡ Smart = sym sees.kind ∙ smart in
    let plain : is_super c.layer.kind ≡ false = ap (λ q. is_super q) is in
    bits_kept c Smart w h is (λ other. absurd (cc other))
    (wide ∙ (ap (λ r. width r) sees.bounds ∙ sym (sound.wide plain)))
    (high ∙ (ap (λ r. height r) sees.bounds ∙ sym (sound.high plain)))

-- a super-bitmap layer keeps all pixels of its own bitmap
pub super_kept : (c : LiveView) (k : Look) → k.kind ≡ SuperBitmap → IsLook c k → KeepsAll c k.bits_w k.bits_h
super_kept c k super sees =
    let is : c.layer.kind ≡ SuperBitmap = sym sees.kind ∙ super in
    bits_kept c SuperBitmap k.bits_w k.bits_h is (λ other. absurd (cc other))
    (sees.bits_w ∙ ap (λ q. if is_super q then c.layer.bits.width else 0) is)
    (sees.bits_h ∙ ap (λ q. if is_super q then c.layer.bits.height else 0) is)

-- one strip more
pub strips_more : (c : LiveView) (bounds : Rectangle) (rects : List Rectangle) (given : List Bool) (k : ℕ) (r : Rectangle) (strips : List StripView) (s : StripView)
    → k < length rects → r ≡ get_or rects k r → rects_of strips ≡ take k rects → IsNewStrip c bounds r (get_or given k false) s
    → ((i : ℕ) (q : StripView) → i < k → get_or given i false ≡ false → held_by (get_or strips i q) ≡ Some (carried c bounds (get_or rects i bounds)))
    → (rects_of (strips ++ s ∷ []) ≡ take (k + 1) rects)
    × ((i : ℕ) (q : StripView) → i < k + 1 → get_or given i false ≡ false → held_by (get_or (strips ++ s ∷ []) i q) ≡ Some (carried c bounds (get_or rects i bounds)))
strips_more c bounds rects given k r strips s inside at so_far one each =
    let long : length strips ≡ k = sym (length-map strips (λ (q : StripView). q.rect)) ∙ (ap length so_far ∙ length-take-le k rects (omega arith)) in (
      map-append (λ (q : StripView). q.rect) strips (s ∷ []) ∙ (ap (λ q. q ++ s.rect ∷ []) so_far
          ∙ (ap (λ q. take k rects ++ q ∷ []) (one.rect ∙ at) ∙ sym (take_more rects k r inside))),
      λ i q below none.
          ⊎_elim
          (λ (early : i < k). ap held_by (get_or_append_left strips (s ∷ []) q i (omega (arith, long))) ∙ each i q early none)
          (λ (late : k ≤ i).
          let same : i ≡ k = omega arith in
          let not : get_or given k false ≡ false = ap (λ n. get_or given n false) (sym same) ∙ none in
          ap (λ n. held_by (get_or (strips ++ s ∷ []) n q)) same ∙ (ap held_by (get_or_at strips s [] q k long)
          ∙ (one.pens not ∙ ap (λ t. Some (carried c bounds t)) (at ∙ (get_or_default rects k r bounds inside ∙ ap (λ n. get_or rects n bounds) (sym same))))))
          (cases_lt i k),
    )

-- the strips of the first rectangles, and the buffers of the others
pub both_new : (c : LiveView) (bounds : Rectangle) (rects : List Rectangle) (given : List Bool) (shown : ℕ) (strips : List StripView) (covered : List Bitmap)
    → shown ≤ length rects → AreNewStrips c bounds (take shown rects) (take shown given) strips → AreNew c bounds (drop shown rects) (drop shown given) covered
    → AreBothNew c bounds rects given shown strips covered
both_new c bounds rects given shown strips covered inside first second =
    let long : length strips ≡ shown = sym (length-map strips (λ (q : StripView). q.rect)) ∙ (ap length first.shown ∙ length-take-le shown rects inside) in
    let held : length (map (λ q. held_by q) strips) ≡ shown = length-map strips (λ q. held_by q) ∙ long in
    let rest = length-drop shown rects in
    let none : StripView = record { rect = bounds; planes = no_bitmap; solid = false } in
    record {
      shown_rects = first.shown;
      many = omega (arith, second.many);
      each =
          λ i below not.
          ⊎_elim
          (λ (early : i < shown).
          get_or_append_left (map (λ q. held_by q) strips) (map (λ b. Some b) covered) None i (omega (arith, held))
          ∙ (get_or-map (λ q. held_by q) strips i none None (omega (arith, long))
          ∙ (first.each i none (omega (arith, length-take-le shown rects inside)) (get_or-take shown given i false early ∙ not)
          ∙ ap (λ r. Some (carried c bounds r)) (get_or-take shown rects i bounds early))))
          (λ (late : shown ≤ i).
          let j : ℕ = i - shown in
          let place : shown + j ≡ i = omega arith in
          let within : j < length (drop shown rects) = omega arith in
          get_or-append_right (map (λ q. held_by q) strips) (map (λ b. Some b) covered) shown i None held late
          ∙ (get_or-map (λ b. Some b) covered j no_bitmap None (omega (arith, second.many))
          ∙ (ap (λ b. Some b) (second.each j within (get_or-drop shown given j false ∙ (ap (λ n. get_or given n false) place ∙ not)))
          ∙ ap (λ r. Some (carried c bounds r)) (get_or-drop shown rects j bounds ∙ ap (λ n. get_or rects n bounds) place))))
          (cases_lt i shown);
    }
