-- A frame is due where what is gained isn't within the window's inner rectangle.
use Rattle.std.proofs.Common.{◌≡◌, ℕ, ◌<◌, Bool, true, false, not, ◌&&◌, ◌||◌, List, [], ◌∷◌, ◌++◌, map, Option, Some, refl, sym, ap, subst, ◌∙◌, arith, ℤ, pos, negsuc, ◌≤ℤ◌}
use Rattle.std.specs.List.{list_any}
use Rattle.std.proofs.lemmas.Bool.{and_parts, and_from, or_left, or_right}
use Rattle.std.proofs.lemmas.Int.{ints}
use Rattle.lw_region.specs.Rectangle.{Rectangle, IsOrdered, within, has_pixel, width, height}
use Rattle.lw_region.specs.Bands.{Run, Band, band_rectangles, covers}
use Rattle.lw_region.specs.Banded.{IsCanonical, AreRuns, AreBands, flat}
use Rattle.lw_region.proofs.Meet.{corner_in}
use Rattle.lw_region.proofs.SetOps.{canonical_is_banded}
use Rattle.lw_region.proofs.Within.{within_true, within_low, within_high}
use Rattle.lw_region.proofs.Moving.{last_in}
use Rattle.lw_calls.specs.Kinds.{is_super}
use Rattle.lw_damage.specs.Damaged.{may_lie}
use Rattle.lw_machine.specs.Hook.{Hook}
use Rattle.lw_machine.specs.Layer.{Layer, is_framed}
use Rattle.lw_machine.specs.Kept.{is_kept, in_inner, holds_at}
use Rattle.lw_machine.specs.Reveal.{Across, is_inner, counts_as_kept, fills, some_now, revealed}
use Rattle.lw_machine.proofs.Settling.{revealed_plain}
use Rattle.lw_layer.specs.View.{LiveView, CellView}
use Rattle.lw_layer.specs.View as view
use Rattle.lw_layer.specs.Pieces.{inner_of}
use Rattle.lw_layer.specs.StandsFor.{IsSound}
use Rattle.lw_layer.proofs.InnerLaws.{may_pixel}
use Rattle.lw_layer.proofs.PixelTests.{one_within, none_within}
use Rattle.lw_reveal.proofs.GainedView.{carried_without_bitmap}
use Rattle.lw_arrange.specs.Filled.{gains, AreGained}
use Rattle.lw_arrange.specs.Framed.{lies_inside, IsFrameGained, has_corners}
use Rattle.lw_arrange.proofs.FilledLaws.{with_hook}
use Rattle.lw_arrange.proofs.GainsLaws.{across_with, stayed, gains_stayed, gained_inside}

-- each rectangle of the list has a pixel
abbrev AreOrdered : List Rectangle → Type 0
AreOrdered [] = Unit {0}
AreOrdered (r ∷ rs) = IsOrdered r × AreOrdered rs

ordered_joined : (rs ss : List Rectangle) → AreOrdered rs → AreOrdered ss → AreOrdered (rs ++ ss)
ordered_joined [] ss first second = second
ordered_joined (r ∷ rs) ss first second = (first.0, ordered_joined rs ss first.1 second)

ordered_runs : (top bottom : ℤ) (runs : List Run) → top ≤ℤ bottom → AreRuns runs
    → AreOrdered (map (λ (r : Run). record { min_x = r.first; min_y = top; max_x = r.last; max_y = bottom }) runs)
ordered_runs top bottom [] rows are = tt
ordered_runs top bottom (r ∷ rs) rows are = (record { columns = are.0; rows = rows }, ordered_runs top bottom rs rows are.2)

ordered_bands : (bs : List Band) → AreBands bs → AreOrdered (flat bs)
unfolding flat
ordered_bands [] are = tt
ordered_bands (b ∷ bs) are =
    ordered_joined (band_rectangles b) (flat bs) (ordered_runs b.top b.bottom b.runs are.0.rows are.0.runs) (ordered_bands bs are.2)

-- so it is of a canonical list
ordered_list : (rects : List Rectangle) → IsCanonical rects → AreOrdered rects
ordered_list rects canonical =
    let banded = (canonical_is_banded rects).0 canonical in
    subst AreOrdered banded.rectangles (ordered_bands banded.bands banded.are)

-- a rectangle whose first and last pixel another one has lies in it
lies_between : (low first z last high : ℤ) → within low first high ≡ true → within low last high ≡ true → within first z last ≡ true
    → within low z high ≡ true
lies_between low first z last high begins ends here =
    let a = within_low low first high begins in
    let b = within_high low last high ends in
    let c = within_low first z last here in
    let d = within_high first z last here in
    within_true low z high (omega (arith, ints)) (omega (arith, ints))

corners_have : (r s : Rectangle) (x y : ℤ) → has_corners r s ≡ true → has_pixel s x y ≡ true → has_pixel r x y ≡ true
corners_have r s x y both here =
    let ends = and_parts (has_pixel r s.min_x s.min_y) (has_pixel r s.max_x s.max_y) both in
    let first = and_parts _ _ ends.0 in
    let last = and_parts _ _ ends.1 in
    let place = and_parts _ _ here in
    and_from _ _ (lies_between r.min_x s.min_x x s.max_x r.max_x first.0 last.0 place.0)
    (lies_between r.min_y s.min_y y s.max_y r.max_y first.1 last.1 place.1)

-- a place that some of these rectangles have, and the rectangle doesn't
record IsOutside (inner : Rectangle) (rects : List Rectangle) : Type 0 where
  pub column : ℤ
  pub row : ℤ
  pub here : covers rects column row ≡ true
  pub outside : has_pixel inner column row ≡ false

outside_one : (inner r : Rectangle) (rs : List Rectangle) → IsOrdered r → has_corners inner r ≡ false → IsOutside inner (r ∷ rs)
unfolding covers
outside_one inner r rs ordered off = go (has_pixel inner r.min_x r.min_y) refl
  where
    go : (b : Bool) → has_pixel inner r.min_x r.min_y ≡ b → IsOutside inner (r ∷ rs)
    go false is = record { column = r.min_x; row = r.min_y; here = or_left _ _ (corner_in r ordered); outside = is }
    go true is = record {
      column = r.max_x;
      row = r.max_y;
      here = or_left _ _ (last_in r ordered);
      outside = sym (ap (λ t. t && has_pixel inner r.max_x r.max_y) is) ∙ off;
    }

some_outside : (inner : Rectangle) (rects : List Rectangle) → AreOrdered rects
    → list_any (λ r. not (has_corners inner r)) rects ≡ true → IsOutside inner rects
unfolding covers
some_outside inner [] ordered has = absurd (cc has)
some_outside inner (r ∷ rs) ordered has = go (has_corners inner r) refl has (λ more. some_outside inner rs ordered.1 more)
  where
    go : (b : Bool) → has_corners inner r ≡ b → (not b || list_any (λ q. not (has_corners inner q)) rs) ≡ true
        → (list_any (λ q. not (has_corners inner q)) rs ≡ true → IsOutside inner rs) → IsOutside inner (r ∷ rs)
    go false is any rest = outside_one inner r rs ordered.0 is
    go true is any rest =
        let found = rest any in
        record { column = found.column; row = found.row; here = or_right _ _ found.here; outside = found.outside }

none_outside : (inner : Rectangle) (rects : List Rectangle) (x y : ℤ) → list_any (λ r. not (has_corners inner r)) rects ≡ false
    → covers rects x y ≡ true → has_pixel inner x y ≡ true
unfolding covers
none_outside inner [] x y none here = absurd (cc here)
none_outside inner (r ∷ rs) x y none here =
    go (has_corners inner r) (has_pixel r x y) refl refl none here (λ rest more. none_outside inner rs x y rest more)
  where
    go : (b t : Bool) → has_corners inner r ≡ b → has_pixel r x y ≡ t
        → (not b || list_any (λ q. not (has_corners inner q)) rs) ≡ false → (t || covers rs x y) ≡ true
        → (list_any (λ q. not (has_corners inner q)) rs ≡ false → covers rs x y ≡ true → has_pixel inner x y ≡ true)
        → has_pixel inner x y ≡ true
    go false t is at off any rest = absurd (cc off)
    go true true is at off any rest = corners_have inner r x y is at
    go true false is at off any rest = rest off any

-- What the code tells by rectangles.
frame_told : (rects : List Rectangle) (bounds inner : Rectangle) (answer : Bool) → IsCanonical rects
    → Some inner ≡ inner_of false true (width bounds) (height bounds) → answer ≡ list_any (λ r. not (has_corners inner r)) rects
    → IsFrameGained rects true bounds answer
frame_told rects bounds inner answer canonical place is =
    let at : (x y : ℤ) → has_pixel inner x y ≡ lies_inside bounds x y = λ x y. ap (λ o. may_lie o x y) place in
    record {
      frameless = λ off. absurd (cc off);
      some = λ has.
          let found = some_outside inner rects (ordered_list rects canonical) (sym is ∙ has) in
          (found.column, found.row, found.here, sym (at found.column found.row) ∙ found.outside);
      none = λ _ off x y here. sym (at x y) ∙ none_outside inner rects x y (sym is ∙ off) here;
    }

pub frame_read : (rects listed : List Rectangle) (framed : Bool) (bounds inner : Rectangle) (answer : Bool) → framed ≡ true
    → IsCanonical rects → listed ≡ rects → Some inner ≡ inner_of false framed (width bounds) (height bounds)
    → answer ≡ list_any (λ r. not (has_corners inner r)) listed → IsFrameGained rects framed bounds answer
frame_read rects listed true bounds inner answer has canonical list place is =
    frame_told rects bounds inner answer canonical place (is ∙ ap (λ l. list_any (λ r. not (has_corners inner r)) l) list)
frame_read rects listed false bounds inner answer has canonical list place is = absurd (cc has)

-- no super-bitmap layer has a frame
framed_other : (super framed : Bool) → (super ≡ true → framed ≡ false) → framed ≡ true → super ≡ false
framed_other true framed frameless has = absurd (cc (frameless refl, has))
framed_other false framed frameless has = refl

-- what the machine fills, of the revealed layer with a hook or without, are the pixels that are gained
fills_gained : (c : CellView) (r : Rectangle) (visible : List Rectangle) (h : Option Hook) (active new_active : Bool) (x y : ℕ)
    → c.state ≡ view.Live → is_super c.live.layer.kind ≡ false
    → fills (across_with c.live r visible active new_active) (with_hook h c.live.layer)
    (revealed (across_with c.live r visible active new_active) (with_hook h c.live.layer)) x y
    ≡ gains c (stayed r visible c) x y
unfolding counts_as_kept is_kept
fills_gained c r visible h active new_active x y live other =
    let q = across_with c.live r visible active new_active in
    let l = with_hook h c.live.layer in
    ap (λ m. fills q l m x y) (revealed_plain q l other) ∙ sym (gains_stayed c r visible active new_active x y live other)

-- Some pixel of the frame of a live window is filled, in the machine's words, exactly where what is gained says so.
pub frame_gained : (c : CellView) (r : Rectangle) (visible : List Rectangle) (h : Option Hook) (active new_active : Bool)
    (rects : List Rectangle) (answer : Bool) → c.state ≡ view.Live → IsSound c.live → is_framed c.live.layer.window ≡ true
    → AreGained c (stayed r visible c) rects → IsFrameGained rects true r answer
    → some_now (across_with c.live r visible active new_active)
    (λ x y.
    fills (across_with c.live r visible active new_active) (with_hook h c.live.layer)
    (revealed (across_with c.live r visible active new_active) (with_hook h c.live.layer)) x y
    && not (is_inner (across_with c.live r visible active new_active) (with_hook h c.live.layer) x y))
    ≡ answer
frame_gained c r visible h active new_active rects answer live sound framed are told = go answer refl
  where
    q : Across
    q = across_with c.live r visible active new_active

    l : Layer
    l = with_hook h c.live.layer

    to : CellView
    to = stayed r visible c

    other : is_super c.live.layer.kind ≡ false
    other = framed_other (is_super c.live.layer.kind) (is_framed c.live.layer.window) sound.frame.frameless framed

    test : ℕ → ℕ → Bool
    test x y = fills q l (revealed q l) x y && not (is_inner q l x y)

    filled : (x y : ℕ) → fills q l (revealed q l) x y ≡ gains c to x y
    filled x y = fills_gained c r visible h active new_active x y live other

    -- a gained pixel lies in the bounds
    inside : (x y : ℕ) → gains c to x y ≡ true → (x < width r) × (y < height r)
    inside x y has =
        let place = gained_inside c to x y has in
        let carried = carried_without_bitmap c.live r visible other in
        (subst (λ (v : LiveView). x < v.layer.bits.width) carried place.0, subst (λ (v : LiveView). y < v.layer.bits.height) carried place.1)

    inner : (x y : ℕ) → gains c to x y ≡ true → lies_inside r (pos x) (pos y) ≡ is_inner q l x y
    inner x y has =
        let place = inside x y has in
        may_pixel false true (width r) (height r) x y refl place.0 place.1
        ∙ ap (λ f. in_inner f (width r) (height r) x y) (sym framed)

    tested : (x y : ℕ) (t i : Bool) → gains c to x y ≡ t → is_inner q l x y ≡ i → test x y ≡ (t && not i)
    tested x y t i has is = ap (λ b. b && not (is_inner q l x y)) (filled x y ∙ has) ∙ ap (λ b. t && not b) is

    off : answer ≡ false → (x y : ℕ) (t : Bool) → gains c to x y ≡ t → test x y ≡ false
    off never x y true has =
        tested x y true true has
        (sym (inner x y has) ∙ told.none refl never (pos x) (pos y) (are (pos x) (pos y) ∙ has))
    off never x y false has = tested x y false (is_inner q l x y) has refl

    one : (x y : ℤ) → holds_at (λ i j. gains c to i j) x y ≡ true → lies_inside r x y ≡ false → some_now q test ≡ true
    one (pos x) (pos y) has out =
        let place = inside x y has in
        one_within (width r) (height r) test x y place.0 place.1 (tested x y true false has (sym (inner x y has) ∙ out))
    one (pos x) (negsuc y) has out = absurd (cc has)
    one (negsuc x) y has out = absurd (cc has)

    go : (b : Bool) → answer ≡ b → some_now q test ≡ answer
    go true is =
        let found = told.some is in
        one found.0 found.1 (sym (are found.0 found.1) ∙ found.2) found.3 ∙ sym is
    go false is = none_within (width r) (height r) test (λ x y _ _. off is x y (gains c to x y) refl) ∙ sym is
