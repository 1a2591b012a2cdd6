-- The bands of a set: they have its pixels, they are canonical, and a canonical list is the bands of its pixels.
use Rattle.std.proofs.Common.{◌≡◌, Bool, true, false, ◌&&◌, ◌||◌, List, [], ◌∷◌, ◌++◌, map, ℤ, refl, ap, sym, ◌∙◌}
use Rattle.std.specs.Prelude.{int_lt}
use Rattle.std.specs.List.{list_any, filter}
use Rattle.std.specs.Ordering.{int_eq}
use Rattle.std.proofs.lemmas.Bool.{false≢true, false_from_ne_true, or_left, or_right, and_parts, and_from}
use Rattle.std.proofs.lemmas.List.Folds.{list_any-append}
use Rattle.std.proofs.Math.Bool.{and_comm}
use Rattle.lw_region.specs.Rectangle.{Rectangle, within, has_pixel}
use Rattle.lw_region.specs.Order.{IsInOrder}
use Rattle.lw_region.specs.Pixels.{Pixel, is_at, contains_pixel, pixels_of}
use Rattle.lw_region.specs.Bands.{Run, Band, rows_in, columns_in, longest_runs, tallest_bands, band_rectangles, bands, covers}
use Rattle.lw_region.specs.Banded.{IsCanonical, in_runs, in_bands, AreBands, flat}
use Rattle.lw_region.proofs.Numbers.{eq_true, int_total, int_trans}
use Rattle.lw_region.proofs.Order.{any_in_order, ordered_in_order}
use Rattle.lw_region.proofs.Lists.{any_agree, any_map, any_filter, any_some}
use Rattle.lw_region.proofs.Runs.{in_runs_nil, in_runs_cons, are_longest, in_longest, some_runs}
use Rattle.lw_region.proofs.Stacks.{in_bands_nil, in_bands_cons, HaveRuns, are_tallest, in_tallest, one_band_list}
use Rattle.lw_region.proofs.Reading.{contains_pixels_of}

-- the runs of one row of the set
abbrev row_runs : List Pixel → ℤ → List Run
row_runs s y = longest_runs (columns_in s y)

-- the columns of a row are in order
ordered_columns : (s : List Pixel) (y : ℤ) → IsInOrder int_lt (columns_in s y)
ordered_columns s y = ordered_in_order int_lt int_trans (map (λ p. p.x) (filter (λ p. int_eq p.y y) s))

-- the runs of a row have the columns of the set's pixels in it
in_row_runs : (s : List Pixel) (x y : ℤ) → in_runs (row_runs s y) x ≡ contains_pixel s x y
unfolding contains_pixel
in_row_runs s x y =
    in_longest (columns_in s y) x (ordered_columns s y)
    ∙ (any_in_order int_lt int_total (λ w. int_eq w x) (map (λ p. p.x) (filter (λ p. int_eq p.y y) s))
    ∙ (any_map (λ w. int_eq w x) (λ (p : Pixel). p.x) (filter (λ p. int_eq p.y y) s)
    ∙ (any_filter (λ p. int_eq p.x x) (λ p. int_eq p.y y) s
    ∙ any_agree _ (is_at x y) (λ p. and_comm (int_eq p.y y) (int_eq p.x x)) s)))

-- a row is among the rows exactly where some pixel is in it
any_rows : (s : List Pixel) (y : ℤ) → list_any (λ w. int_eq w y) (rows_in s) ≡ list_any (λ p. int_eq p.y y) s
any_rows s y =
    any_in_order int_lt int_total (λ w. int_eq w y) (map (λ p. p.y) s) ∙ any_map (λ w. int_eq w y) (λ (p : Pixel). p.y) s

-- a row in which the set has pixels has runs
row_has_runs : (s : List Pixel) (y : ℤ) → list_any (λ w. int_eq w y) (rows_in s) ≡ true → row_runs s y ≡ [] → ⊥
unfolding contains_pixel
row_has_runs s y h =
    let p = any_some (λ p. int_eq p.y y) s (sym (any_rows s y) ∙ h) in
    let q = p.0 in
    some_runs (row_runs s y) q.x (in_row_runs s q.x y ∙ p.2 (is_at q.x y) (and_from (int_eq q.x q.x) (int_eq q.y y) (eq_true q.x q.x refl) p.1))

-- rows that are not empty have runs
rows_have_runs : (s : List Pixel) (ys : List ℤ) → ((y : ℤ) → list_any (λ w. int_eq w y) ys ≡ true → row_runs s y ≡ [] → ⊥) → HaveRuns (row_runs s) ys
rows_have_runs s [] h = tt
rows_have_runs s (y ∷ ys) h = (
  are_longest (columns_in s y) (ordered_columns s y),
  h y (or_left (int_eq y y) _ (eq_true y y refl)),
  rows_have_runs s ys (λ z k. h z (or_right (int_eq y z) _ k)),
)

-- the bands of a set as bands
unfoldable pub band_list : List Pixel → List Band
band_list s = tallest_bands (λ y. longest_runs (columns_in s y)) (rows_in s)

-- the rows of a set are in order
ordered_rows : (s : List Pixel) → IsInOrder int_lt (rows_in s)
ordered_rows s = ordered_in_order int_lt int_trans (map (λ p. p.y) s)

-- the bands of a set are bands
pub are_band_list : (s : List Pixel) → AreBands (band_list s)
unfolding band_list
are_band_list s = are_tallest (row_runs s) (rows_in s) (ordered_rows s) (rows_have_runs s (rows_in s) (row_has_runs s))

-- no pixel is in a row that is not among the rows
row_absent : (s : List Pixel) (x y : ℤ) → contains_pixel s x y ≡ true → list_any (λ w. int_eq w y) (rows_in s) ≡ false → ⊥
unfolding contains_pixel
row_absent s x y h e =
    let p = any_some (is_at x y) s h in
    let q = p.0 in
    let k = and_parts (int_eq q.x x) (int_eq q.y y) p.1 in
    false≢true (sym e ∙ (any_rows s y ∙ p.2 (λ r. int_eq r.y y) k.1))

-- the rows of a set tell nothing more than its pixels
row_settled : (s : List Pixel) (x y : ℤ) (t : Bool) → list_any (λ w. int_eq w y) (rows_in s) ≡ t → (t && contains_pixel s x y) ≡ contains_pixel s x y
row_settled s x y true e = refl
row_settled s x y false e = sym (false_from_ne_true _ (λ h. row_absent s x y h e))

-- the bands of a set have its pixels
pub in_band_list : (s : List Pixel) (x y : ℤ) → in_bands (band_list s) x y ≡ contains_pixel s x y
unfolding band_list
in_band_list s x y =
    in_tallest (row_runs s) (rows_in s) x y (ordered_rows s) (rows_have_runs s (rows_in s) (row_has_runs s))
    ∙ (ap (λ w. list_any (λ v. int_eq v y) (rows_in s) && w) (in_row_runs s x y)
    ∙ row_settled s x y (list_any (λ v. int_eq v y) (rows_in s)) refl)

-- covers, rectangle by rectangle
pub covers_nil : (x y : ℤ) → covers [] x y ≡ false
unfolding covers
covers_nil x y = refl

-- a pixel of the first rectangle or of the others
pub covers_cons : (r : Rectangle) (rs : List Rectangle) (x y : ℤ) → covers (r ∷ rs) x y ≡ (has_pixel r x y || covers rs x y)
unfolding covers
covers_cons r rs x y = refl

-- a pixel of either list
pub covers_append : (rs ss : List Rectangle) (x y : ℤ) → covers (rs ++ ss) x y ≡ (covers rs x y || covers ss x y)
unfolding covers
covers_append rs ss x y = list_any-append (λ r. has_pixel r x y) rs ss

-- a test that two share
and_both : (p q t : Bool) → ((p && t) || (t && q)) ≡ (t && (p || q))
and_both true q true = refl
and_both true true false = refl
and_both true false false = refl
and_both false q t = refl

-- the rectangles of a band have its pixels
pub covers_runs : (top bottom : ℤ) (rs : List Run) (x y : ℤ)
    → covers (band_rectangles (record { top = top; bottom = bottom; runs = rs })) x y ≡ (within top y bottom && in_runs rs x)
covers_runs top bottom [] x y =
    covers_nil x y ∙ (and_comm false (within top y bottom) ∙ ap (λ w. within top y bottom && w) (sym (in_runs_nil x)))
covers_runs top bottom (r ∷ rs) x y =
    covers_cons (record { min_x = r.first; min_y = top; max_x = r.last; max_y = bottom }) (band_rectangles (record { top = top; bottom = bottom; runs = rs })) x y
    ∙ (ap (λ w. (within r.first x r.last && within top y bottom) || w) (covers_runs top bottom rs x y)
    ∙ (and_both (within r.first x r.last) (in_runs rs x) (within top y bottom)
    ∙ ap (λ w. within top y bottom && w) (sym (in_runs_cons r rs x))))

-- no band has no rectangle
pub flat_nil : flat [] ≡ []
unfolding flat
flat_nil = refl

-- the rectangles of the first band stand before those of the others
pub flat_cons : (b : Band) (bs : List Band) → flat (b ∷ bs) ≡ band_rectangles b ++ flat bs
unfolding flat
flat_cons b bs = refl

-- the rectangles of bands have their pixels
pub covers_flat : (bs : List Band) (x y : ℤ) → covers (flat bs) x y ≡ in_bands bs x y
covers_flat [] x y = ap (λ w. covers w x y) flat_nil ∙ (covers_nil x y ∙ sym (in_bands_nil x y))
covers_flat (b ∷ bs) x y =
    ap (λ w. covers w x y) (flat_cons b bs)
    ∙ (covers_append (band_rectangles b) (flat bs) x y
    ∙ (ap (λ w. w || covers (flat bs) x y) (covers_runs b.top b.bottom b.runs x y)
    ∙ (ap (λ w. (within b.top y b.bottom && in_runs b.runs x) || w) (covers_flat bs x y) ∙ sym (in_bands_cons b bs x y))))

-- the bands of a set, as rectangles and as bands
pub bands_flat : (s : List Pixel) → bands s ≡ flat (band_list s)
unfolding bands flat band_list
bands_flat s = refl

-- the rectangles of the bands of a set have its pixels
pub covers_bands : (s : List Pixel) (x y : ℤ) → covers (bands s) x y ≡ contains_pixel s x y
covers_bands s x y = ap (λ w. covers w x y) (bands_flat s) ∙ (covers_flat (band_list s) x y ∙ in_band_list s x y)

-- bands with the pixels of a set are its bands
pub flat_is_bands : (bs : List Band) (s : List Pixel) → AreBands bs → ((x y : ℤ) → covers (flat bs) x y ≡ contains_pixel s x y) → flat bs ≡ bands s
flat_is_bands bs s h e =
    ap flat (one_band_list bs (band_list s) h (are_band_list s) (λ x y. sym (covers_flat bs x y) ∙ (e x y ∙ sym (in_band_list s x y))))
    ∙ sym (bands_flat s)

-- the rectangles of bands are canonical
pub flat_canonical : (bs : List Band) → AreBands bs → IsCanonical (flat bs)
flat_canonical bs h = sym (flat_is_bands bs (pixels_of (flat bs)) h (λ x y. sym (contains_pixels_of (flat bs) x y)))

-- a canonical list is the bands of any set with its pixels
pub canonical_is_bands : (rects : List Rectangle) (s : List Pixel) → IsCanonical rects → ((x y : ℤ) → covers rects x y ≡ contains_pixel s x y) → rects ≡ bands s
canonical_is_bands rects s h e =
    let p = pixels_of rects in
    let f : flat (band_list p) ≡ rects = sym (bands_flat p) ∙ h in
    sym f ∙ flat_is_bands (band_list p) s (are_band_list p) (λ x y. ap (λ w. covers w x y) f ∙ e x y)

-- two canonical lists with the same pixels are one
pub one_canonical : (rs ss : List Rectangle) → IsCanonical rs → IsCanonical ss → ((x y : ℤ) → covers rs x y ≡ covers ss x y) → rs ≡ ss
one_canonical rs ss h k e =
    canonical_is_bands rs (pixels_of ss) h (λ x y. e x y ∙ sym (contains_pixels_of ss x y)) ∙ k
