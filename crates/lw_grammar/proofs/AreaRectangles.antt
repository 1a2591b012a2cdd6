-- The rectangles of an area whose points are in range are rectangles that a fill may have.
use Rattle.std.proofs.Common.{◌≡◌, ℕ, Bool, true, false, cond, ◌||◌, List, [], ◌∷◌, ◌++◌, map, filter, ℤ, pos, negsuc, ◌≤ℤ◌, refl, sym, ap, subst, ◌∙◌, arith}
use Rattle.std.specs.List.{list_any, list_all}
use Rattle.lw_region.specs.Rectangle.{Rectangle, within, has_pixel, IsOrdered}
use Rattle.lw_region.specs.Pixels.{Pixel, is_at, contains_pixel}
use Rattle.lw_region.specs.Regions.{rectangle_set}
use Rattle.lw_region.specs.Bands.{Run, Band, band_rectangles, bands, covers}
use Rattle.lw_region.specs.Banded.{AreRuns, AreBands, flat}
use Rattle.lw_region.proofs.Within.{within_low, within_high}
use Rattle.lw_region.proofs.Reading.{contains_pixels_of}
use Rattle.lw_region.proofs.Canonical.{band_list, are_band_list, covers_cons, flat_nil, flat_cons, bands_flat, covers_bands}
use Rattle.lw_region.proofs.Meet.{corner_in}
use Rattle.lw_region.proofs.Moving.{last_in}
use Rattle.lw_region.proofs.SetOps.{covers_one, bands_of_nil}
use Rattle.lw_area.specs.declared.point.Point.{Point}
use Rattle.lw_area.specs.Polygons.{is_in_range, box_of}
use Rattle.lw_area.specs.Areas.{is_in_area, area_set, area_rectangles}
use Rattle.lw_calls.specs.Limits.{axis_fits, rect_fits}
use Rattle.std.proofs.lemmas.Int.{ints, clamps}
use Rattle.std.proofs.lemmas.Bool.{or_left, or_right, and_parts, and_from}
use Rattle.std.proofs.lemmas.Bool.Decides.{nat_tests}

-- no maximum of these is below its minimum
abbrev AreOrdered : List Rectangle → Type 0
AreOrdered [] = Unit {0}
AreOrdered (r ∷ rs) = IsOrdered r × AreOrdered rs

ordered_both : (rs ss : List Rectangle) → AreOrdered rs → AreOrdered ss → AreOrdered (rs ++ ss)
ordered_both [] ss h k = k
ordered_both (r ∷ rs) ss h k = (h.0, ordered_both rs ss h.1 k)

runs_ordered : (top bottom : ℤ) (rs : List Run) → top ≤ℤ bottom → AreRuns rs → AreOrdered (map (λ r. record { min_x = r.first; min_y = top; max_x = r.last; max_y = bottom }) rs)
runs_ordered top bottom [] h k = tt
runs_ordered top bottom (r ∷ rs) h k = (record { columns = k.0; rows = h }, runs_ordered top bottom rs h k.2)

bands_ordered : (bs : List Band) → AreBands bs → AreOrdered (flat bs)
bands_ordered [] h = subst AreOrdered (sym flat_nil) tt
bands_ordered (b ∷ bs) h =
    subst AreOrdered (sym (flat_cons b bs)) (ordered_both (band_rectangles b) (flat bs) (runs_ordered b.top b.bottom b.runs h.0.rows h.0.runs) (bands_ordered bs h.2))

-- a box of places that a point of an area may have
record IsBox (b : Rectangle) : Type 0 where
  left : negsuc 2047 ≤ℤ b.min_x
  top : negsuc 2047 ≤ℤ b.min_y
  right : b.max_x ≤ℤ pos 4095
  bottom : b.max_y ≤ℤ pos 4095

point_box : (p : Point) → is_in_range p ≡ true → IsBox (box_of p [])
point_box p h =
    let k = and_parts (within (negsuc 2047) p.x (pos 4095)) _ h in
    record {
      left = within_low (negsuc 2047) p.x (pos 4095) k.0;
      top = within_low (negsuc 2047) p.y (pos 4095) k.1;
      right = within_high (negsuc 2047) p.x (pos 4095) k.0;
      bottom = within_high (negsuc 2047) p.y (pos 4095) k.1;
    }

points_box : (p : Point) (ps : List Point) → list_all is_in_range (p ∷ ps) ≡ true → IsBox (box_of p ps)
points_box p [] h = point_box p (and_parts (is_in_range p) true h).0
points_box p (q ∷ qs) h =
    let k = and_parts (is_in_range p) (list_all is_in_range (q ∷ qs)) h in
    let one = point_box p k.0 in
    let others = points_box q qs k.1 in
    let a = one.left in
    let b = one.top in
    let c = one.right in
    let d = one.bottom in
    let e = others.left in
    let f = others.top in
    let g = others.right in
    let i = others.bottom in
    record {
      left = omega (arith, ints, clamps);
      top = omega (arith, ints, clamps);
      right = omega (arith, ints, clamps);
      bottom = omega (arith, ints, clamps);
    }

-- a rectangle with two corners in such a box
axis_inside : (low high least most : ℤ) → negsuc 2047 ≤ℤ least → most ≤ℤ pos 4095 → least ≤ℤ low → low ≤ℤ high → high ≤ℤ most → axis_fits low high ≡ true
unfolding within axis_fits
axis_inside low high least most a b c d e = grind (arith, ints, nat_tests)

inside_fits : (b r : Rectangle) → IsBox b → IsOrdered r → has_pixel b r.min_x r.min_y ≡ true → has_pixel b r.max_x r.max_y ≡ true → rect_fits r ≡ true
inside_fits b r k o h j =
    let first = and_parts (within b.min_x r.min_x b.max_x) _ h in
    let last = and_parts (within b.min_x r.max_x b.max_x) _ j in
    and_from _ _ (axis_inside r.min_x r.max_x b.min_x b.max_x k.left k.right (within_low _ _ _ first.0) o.columns (within_high _ _ _ last.0)) (axis_inside r.min_y r.max_y b.min_y b.max_y k.top k.bottom (within_low _ _ _ first.1) o.rows (within_high _ _ _ last.1))

all_inside : (b : Rectangle) (rs : List Rectangle) → IsBox b → AreOrdered rs → ((x y : ℤ) → covers rs x y ≡ true → has_pixel b x y ≡ true) → list_all rect_fits rs ≡ true
all_inside b [] k o h = refl
all_inside b (r ∷ rs) k o h =
    let first = h r.min_x r.min_y (covers_cons r rs r.min_x r.min_y ∙ or_left _ _ (corner_in r o.0)) in
    let last = h r.max_x r.max_y (covers_cons r rs r.max_x r.max_y ∙ or_left _ _ (last_in r o.0)) in
    and_from _ _ (inside_fits b r k o.0 first last) (all_inside b rs k o.1 (λ x y c. h x y (covers_cons r rs x y ∙ or_right _ _ c)))

-- what is among those of a list that pass a test is in the list
any_among : (p q : Pixel → Bool) (vs : List Pixel) → list_any p (filter q vs) ≡ true → list_any p vs ≡ true
any_among p q [] h = h
any_among p q (v ∷ vs) h = step (q v) h (any_among p q vs)
  where
    more : (u : Bool) → (u || list_any p (filter q vs)) ≡ true → (list_any p (filter q vs) ≡ true → list_any p vs ≡ true) → (u || list_any p vs) ≡ true
    more true k go = refl
    more false k go = go k

    step : (t : Bool) → list_any p (cond t (v ∷ filter q vs) (filter q vs)) ≡ true → (list_any p (filter q vs) ≡ true → list_any p vs ≡ true) → (p v || list_any p vs) ≡ true
    step true k go = more (p v) k go
    step false k go = or_right (p v) _ (go k)

-- the pixels of an area lie in its box
in_its_box : (p : Point) (ps : List Point) (words : List ℕ) (x y : ℤ) → contains_pixel (area_set (p ∷ ps) words) x y ≡ true → has_pixel (box_of p ps) x y ≡ true
unfolding area_set contains_pixel
in_its_box p ps words x y h =
    let box = box_of p ps in
    sym (contains_pixels_of (box ∷ []) x y ∙ covers_one box x y) ∙ any_among (is_at x y) (λ v. is_in_area (p ∷ ps) words v.x v.y) (rectangle_set box) h

-- an area without points has no rectangle
none_fits : (words : List ℕ) → list_all rect_fits (area_rectangles [] words) ≡ true
unfolding area_set
none_fits words = ap (list_all rect_fits) bands_of_nil

pub area_fits : (points : List Point) (words : List ℕ) → list_all is_in_range points ≡ true → list_all rect_fits (area_rectangles points words) ≡ true
area_fits [] words h = none_fits words
area_fits (p ∷ ps) words h =
    let set = area_set (p ∷ ps) words in
    let ordered = subst AreOrdered (sym (bands_flat set)) (bands_ordered (band_list set) (are_band_list set)) in
    all_inside (box_of p ps) (bands set) (points_box p ps h) ordered (λ x y c. in_its_box p ps words x y (sym (covers_bands set x y) ∙ c))
