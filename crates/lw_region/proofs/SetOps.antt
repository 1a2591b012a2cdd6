-- What the operations on regions do to sets and lists, and the laws of canonical lists.
use Rattle.std.proofs.Common.{◌≡◌, ◌↔◌, false, ◌||◌, List, [], ◌∷◌, ℤ, refl, ap, sym, subst, ◌∙◌}
use Rattle.std.proofs.Math.Bool.{or-false}
use Rattle.lw_region.specs.declared.operation.Operation.{Operation}
use Rattle.lw_region.specs.declared.operation.Operation.TheVariants.{Union, Intersection, SymmetricDifference, Difference}
use Rattle.lw_region.specs.Rectangle.{Rectangle, has_pixel, IsOrdered}
use Rattle.lw_region.specs.Order.{IsInOrder}
use Rattle.lw_region.specs.Pixels.{Pixel, precedes, contains_pixel, pixels_of}
use Rattle.lw_region.specs.Bands.{Run, Band, bands, covers}
use Rattle.lw_region.specs.Banded.{IsCanonical, IsBanded, flat}
use Rattle.lw_region.specs.Operations.{holds, combined}
use Rattle.lw_region.specs.Regions.{IsListOf, CombinedListsLaw}
use Rattle.lw_region.proofs.Reading.{one_set, ordered_pixels, ordered_union, ordered_intersection, ordered_difference, ordered_symmetric, contains_union, contains_intersection, contains_difference, contains_symmetric, contains_pixels_of}
use Rattle.lw_region.proofs.Canonical.{flat_nil, covers_nil, covers_cons, canonical_is_bands, covers_bands, bands_flat, band_list, are_band_list, flat_canonical, one_canonical}

-- the empty list is canonical
pub canonical_nil : IsCanonical []
canonical_nil = rw (sym flat_nil) (flat_canonical [] tt)

-- the band of one rectangle
abbrev one_band : Rectangle → Band
one_band r = record { top = r.min_y; bottom = r.max_y; runs = record { first = r.min_x; last = r.max_x } ∷ [] }

-- the rectangles of that band
one_rectangle : (r : Rectangle) → flat (one_band r ∷ []) ≡ r ∷ []
unfolding flat
one_rectangle r = refl

-- one run is not none
one_not_nil : (r : Run) → (r ∷ []) ≡ [] → ⊥
one_not_nil r e = cc

-- the list of one rectangle is canonical
pub canonical_one : (r : Rectangle) → IsOrdered r → IsCanonical (r ∷ [])
canonical_one r h =
    rw (sym (one_rectangle r))
    (flat_canonical (one_band r ∷ []) (record { rows = h.rows; some = one_not_nil (record { first = r.min_x; last = r.max_x }); runs = (h.columns, tt, tt) }, tt, tt))

-- the pixels of one rectangle
pub covers_one : (r : Rectangle) (x y : ℤ) → covers (r ∷ []) x y ≡ has_pixel r x y
covers_one r x y = covers_cons r [] x y ∙ (ap (λ w. has_pixel r x y || w) (covers_nil x y) ∙ or-false (has_pixel r x y))

-- the bands of a set are canonical
pub canonical_bands : (s : List Pixel) → IsCanonical (bands s)
canonical_bands s = rw (bands_flat s) (flat_canonical (band_list s) (are_band_list s))

-- a canonical list is the rectangles of its set's bands
canonical_banded : (rects : List Rectangle) → IsCanonical rects → IsBanded rects
canonical_banded rects h =
    let s = pixels_of rects in record { bands = band_list s; are = are_band_list s; rectangles = sym (bands_flat s) ∙ h }

-- the rectangles of bands are canonical
banded_canonical : (rects : List Rectangle) → IsBanded rects → IsCanonical rects
banded_canonical rects h = subst IsCanonical h.rectangles (flat_canonical h.bands h.are)

-- a list is canonical exactly where it is the rectangles of bands
pub canonical_is_banded : (rects : List Rectangle) → IsCanonical rects ↔ IsBanded rects
canonical_is_banded rects = (canonical_banded rects, banded_canonical rects)

-- the set of the bands of a set is the set
pub set_of_bands : (s : List Pixel) → IsInOrder precedes s → pixels_of (bands s) ≡ s
set_of_bands s h = one_set (pixels_of (bands s)) s (ordered_pixels (bands s)) h (λ x y. contains_pixels_of (bands s) x y ∙ covers_bands s x y)

-- the pixels of the set that an operation makes
contains_combined : (operation : Operation) (s t : List Pixel) (x y : ℤ)
    → contains_pixel (combined operation s t) x y ≡ holds operation (contains_pixel s x y) (contains_pixel t x y)
contains_combined Union s t x y = contains_union s t x y
contains_combined Intersection s t x y = contains_intersection s t x y
contains_combined SymmetricDifference s t x y = contains_symmetric s t x y
contains_combined Difference s t x y = contains_difference s t x y

-- the same by the pixels of the lists
contains_lists : (operation : Operation) (a b : List Rectangle) (x y : ℤ)
    → contains_pixel (combined operation (pixels_of a) (pixels_of b)) x y ≡ holds operation (covers a x y) (covers b x y)
contains_lists operation a b x y =
    contains_combined operation (pixels_of a) (pixels_of b) x y
    ∙ (ap (λ w. holds operation w (contains_pixel (pixels_of b) x y)) (contains_pixels_of a x y) ∙ ap (holds operation (covers a x y)) (contains_pixels_of b x y))

-- the set that an operation makes is in reading order
ordered_combined : (operation : Operation) (a b : List Rectangle) → IsInOrder precedes (combined operation (pixels_of a) (pixels_of b))
ordered_combined Union a b = ordered_union (pixels_of a) (pixels_of b)
ordered_combined Intersection a b = ordered_intersection (pixels_of a) (pixels_of b) (ordered_pixels a)
ordered_combined SymmetricDifference a b = ordered_symmetric (pixels_of a) (pixels_of b)
ordered_combined Difference a b = ordered_difference (pixels_of a) (pixels_of b) (ordered_pixels a)

-- a canonical list of the pixels for which the operation holds is the bands of the set that it makes
pub list_combined : (operation : Operation) (a b after : List Rectangle) → IsCanonical after
    → ((x y : ℤ) → covers after x y ≡ holds operation (covers a x y) (covers b x y)) → after ≡ bands (combined operation (pixels_of a) (pixels_of b))
list_combined operation a b after h e =
    canonical_is_bands after (combined operation (pixels_of a) (pixels_of b)) h (λ x y. e x y ∙ sym (contains_lists operation a b x y))

-- and such bands have that set and those pixels
bands_combined : (operation : Operation) (a b made : List Rectangle) → made ≡ bands (combined operation (pixels_of a) (pixels_of b))
    → IsListOf (combined operation (pixels_of a) (pixels_of b)) (λ x y. holds operation (covers a x y) (covers b x y)) made
bands_combined operation a b made e =
    let s : List Pixel = combined operation (pixels_of a) (pixels_of b) in
    record {
      set = ap pixels_of e ∙ set_of_bands s (ordered_combined operation a b);
      pixels = λ x y. ap (λ rects. covers rects x y) e ∙ (covers_bands s x y ∙ contains_lists operation a b x y);
    }

-- what the calls on regions make, by set and by pixel
pub combined_lists : CombinedListsLaw
combined_lists = record {
  unions = bands_combined Union;
  intersections = bands_combined Intersection;
  differences = bands_combined Difference;
  symmetric = bands_combined SymmetricDifference;
  single = covers_one;
}

-- a canonical list with no pixel is empty
pub canonical_empty : (rects : List Rectangle) → IsCanonical rects → ((x y : ℤ) → covers rects x y ≡ false) → rects ≡ []
canonical_empty rects h e = one_canonical rects [] h canonical_nil (λ x y. e x y ∙ sym (covers_nil x y))

-- canonical lists with the same set are one
pub one_canonical_set : (rs ss : List Rectangle) → IsCanonical rs → IsCanonical ss → pixels_of rs ≡ pixels_of ss → rs ≡ ss
one_canonical_set rs ss h k e =
    one_canonical rs ss h k (λ x y. sym (contains_pixels_of rs x y) ∙ (ap (λ w. contains_pixel w x y) e ∙ contains_pixels_of ss x y))

-- the empty list has the empty set
pub set_of_nil : pixels_of [] ≡ []
unfolding pixels_of
set_of_nil = refl

-- the empty set has no band
pub bands_of_nil : bands [] ≡ []
unfolding bands
bands_of_nil = refl
