-- The pixels of an array of rectangles, as its region is put together.
use Rattle.std.proofs.Common.{◌≡◌, ◌<◌, false, ◌||◌, List, [], ◌∷◌, ◌++◌, length, ℤ, refl, ap, sym, ◌∙◌, subst, arith}
use Rattle.std.proofs.lemmas.List.{map-append}
use Rattle.lw_region.specs.Rectangle.{Rectangle}
use Rattle.lw_region.specs.Pixels.{pixels_of, union}
use Rattle.lw_region.specs.Bands.{bands, covers}
use Rattle.lw_region.specs.Banded.{IsCanonical}
use Rattle.lw_region.specs.Regions.{rectangle_set}
use Rattle.lw_region.proofs.Canonical.{covers_nil, covers_append}
use Rattle.lw_region.proofs.Reading.{one_set, contains_pixels_of, ordered_pixels}
use Rattle.lw_region.proofs.SetOps.{combined_lists, set_of_bands}
use Rattle.lw_c_rectangles.specs.declared.bounds.Bounds.{Bounds}
use Rattle.lw_c_rectangles.specs.Bounds.{rectangle_of}
use Rattle.lw_c_arrays.specs.Lists.{rectangles_of}

one_or_none : (b : Bounds) (rest : List Bounds) → length (b ∷ rest) < 2 → rest ≡ []
one_or_none b [] h = refl
one_or_none b (s ∷ rest) h = absurd (omega (arith, h))

-- the only rectangle of an array, joined to nothing
pub only_rectangle : (before after : List Rectangle) (all rest : List Bounds) (b : Bounds) (r : Rectangle) → before ≡ [] → all ≡ b ∷ rest → length all < 2
    → r ≡ rectangle_of b → after ≡ bands (union (pixels_of before) (rectangle_set r)) → (x y : ℤ) → covers after x y ≡ covers (rectangles_of all) x y
only_rectangle before after all rest b r e a l is h x y =
    let none : rest ≡ [] = one_or_none b rest (subst (λ z. length z < 2) a l) in
    let alone : rectangles_of all ≡ rectangle_of b ∷ [] = ap rectangles_of (a ∙ ap (λ z. b ∷ z) none) in
    let one : covers (r ∷ []) x y ≡ covers (rectangles_of all) x y = ap (λ q. covers (q ∷ []) x y) is ∙ sym (ap (λ z. covers z x y) alone) in
    let nothing : covers before x y ≡ false = ap (λ z. covers z x y) e ∙ covers_nil x y in
    (combined_lists.unions before (r ∷ []) after h).pixels x y ∙ (ap (λ w. w || covers (r ∷ []) x y) nothing ∙ one)

-- two halves joined
pub halves_joined : (all left right : List Bounds) (a b after : List Rectangle) → all ≡ left ++ right
    → ((x y : ℤ) → covers a x y ≡ covers (rectangles_of left) x y) → ((x y : ℤ) → covers b x y ≡ covers (rectangles_of right) x y)
    → after ≡ bands (union (pixels_of a) (pixels_of b)) → (x y : ℤ) → covers after x y ≡ covers (rectangles_of all) x y
halves_joined all left right a b after e ha hb h x y =
    let whole : rectangles_of all ≡ rectangles_of left ++ rectangles_of right = ap rectangles_of e ∙ map-append rectangle_of left right in
    (combined_lists.unions a b after h).pixels x y ∙ (ap (λ w. w || covers b x y) (ha x y) ∙ (ap (λ w. covers (rectangles_of left) x y || w) (hb x y)
    ∙ (sym (covers_append (rectangles_of left) (rectangles_of right) x y) ∙ sym (ap (λ z. covers z x y) whole))))

-- a canonical list with the pixels of another list is the bands of that one's set
pub told_by_pixels : (made list : List Rectangle) → IsCanonical made → ((x y : ℤ) → covers made x y ≡ covers list x y) → made ≡ bands (pixels_of list)
told_by_pixels made list canonical same =
    let one : pixels_of made ≡ pixels_of list = one_set (pixels_of made) (pixels_of list) (ordered_pixels made) (ordered_pixels list)
    (λ x y. contains_pixels_of made x y ∙ (same x y ∙ sym (contains_pixels_of list x y))) in
    sym canonical ∙ ap bands one

-- the set of a list that is the bands of another list's set
pub same_set : (made list : List Rectangle) → made ≡ bands (pixels_of list) → pixels_of made ≡ pixels_of list
same_set made list is = ap pixels_of is ∙ set_of_bands (pixels_of list) (ordered_pixels list)
