-- What the operations on regions make, and the laws of canonical lists.
use Rattle.std.specs.Prelude.{◌≡◌, ◌↔◌, ℕ, ◌<◌, Bool, true, false, ◌&&◌, ◌||◌, not, List, [], ◌∷◌, length, slice_index_or, map}
use Rattle.std.specs.Prelude.{ℤ, pos, ◌+ℤ◌, ◌-ℤ◌}
use Rattle.lw_region.specs.Rectangle.{Rectangle, has_pixel, AreApart, moved_by, IsWord}
use Rattle.lw_region.specs.Order.{IsInOrder}
use Rattle.lw_region.specs.Pixels.{Pixel, precedes, contains_pixel, pixels_of, union, intersection, difference}
use Rattle.lw_region.specs.Pixels.{symmetric_difference}
use Rattle.lw_region.specs.Bands.{bands, covers}
use Rattle.lw_region.specs.Banded.{IsCanonical, IsBanded}

-- the set of one rectangle
abbrev pub rectangle_set : Rectangle → List Pixel
rectangle_set r = pixels_of (r ∷ [])

-- a pixel is in the set of a list exactly where some rectangle of the list has it, and sets are in reading order
abbrev pub SetOfListLaw : Type 0
SetOfListLaw =
    ((rects : List Rectangle) (x y : ℤ) → contains_pixel (pixels_of rects) x y ≡ covers rects x y)
    × ((rects : List Rectangle) → IsInOrder precedes (pixels_of rects))

-- the bands of a set have its pixels and are canonical, and their set is the set again
abbrev pub BandsLaw : Type 0
BandsLaw =
    ((s : List Pixel) (x y : ℤ) → covers (bands s) x y ≡ contains_pixel s x y)
    × ((s : List Pixel) → IsCanonical (bands s)) × ((s : List Pixel) → IsInOrder precedes s → pixels_of (bands s) ≡ s)

-- a list is canonical exactly where it is the rectangles of bands from top to bottom, no two adjacent ones with equal runs, each
-- with its runs from left to right, no two of which touch or overlap
abbrev pub BandedLaw : Type 0
BandedLaw = (rects : List Rectangle) → IsCanonical rects ↔ IsBanded rects

-- canonical lists with the same pixels, or with the same set, are one list
abbrev pub OneListLaw : Type 0
OneListLaw =
    ((rs ss : List Rectangle) → IsCanonical rs → IsCanonical ss → ((x y : ℤ) → covers rs x y ≡ covers ss x y) → rs ≡ ss)
    × ((rs ss : List Rectangle) → IsCanonical rs → IsCanonical ss → pixels_of rs ≡ pixels_of ss → rs ≡ ss)

-- a canonical list with no pixel is empty, and the empty list has the empty set
abbrev pub EmptyListLaw : Type 0
EmptyListLaw =
    ((rects : List Rectangle) → IsCanonical rects → ((x y : ℤ) → covers rects x y ≡ false) → rects ≡ []) × (pixels_of [] ≡ [])
    × (bands [] ≡ [])

-- no two rectangles of a canonical list have a pixel in common
abbrev pub DisjointLaw : Type 0
DisjointLaw =
    (rects : List Rectangle) → IsCanonical rects → (i j : ℕ) (d : Rectangle) → i < j → j < length rects
    → AreApart (slice_index_or rects i d) (slice_index_or rects j d)

-- the pixels that the operations on sets give
abbrev pub OperationPixels : Type 0
OperationPixels =
    ((s t : List Pixel) (x y : ℤ) → contains_pixel (union s t) x y ≡ (contains_pixel s x y || contains_pixel t x y))
    × ((s t : List Pixel) (x y : ℤ) → contains_pixel (intersection s t) x y ≡ (contains_pixel s x y && contains_pixel t x y))
    × ((s t : List Pixel) (x y : ℤ) → contains_pixel (difference s t) x y ≡ (contains_pixel s x y && not (contains_pixel t x y)))
    × ((s t : List Pixel) (x y : ℤ)
    → contains_pixel (symmetric_difference s t) x y
    ≡ ((contains_pixel s x y && not (contains_pixel t x y)) || (contains_pixel t x y && not (contains_pixel s x y))))

-- the operations on sets give sets: lists of pixels in reading order
abbrev pub OperationOrder : Type 0
OperationOrder =
    ((s t : List Pixel) → IsInOrder precedes (union s t))
    × ((s t : List Pixel) → IsInOrder precedes s → IsInOrder precedes (intersection s t))
    × ((s t : List Pixel) → IsInOrder precedes s → IsInOrder precedes (difference s t))
    × ((s t : List Pixel) → IsInOrder precedes (symmetric_difference s t))

-- the operations on sets give sets, with these pixels
abbrev pub SetOperationsLaw : Type 0
SetOperationsLaw = OperationPixels × OperationOrder

-- the list has this set, and the pixels for which the test holds
pub record IsListOf (s : List Pixel) (test : ℤ → ℤ → Bool) (made : List Rectangle) : Type 0 where
  pub set : pixels_of made ≡ s
  pub pixels : (x y : ℤ) → covers made x y ≡ test x y

-- What the calls on regions make of lists a and b, by set and by pixel. A rectangle is the list of it alone.
pub record CombinedListsLaw : Type 0 where
  pub unions : (a b made : List Rectangle) → made ≡ bands (union (pixels_of a) (pixels_of b))
      → IsListOf (union (pixels_of a) (pixels_of b)) (λ x y. covers a x y || covers b x y) made
  pub intersections : (a b made : List Rectangle) → made ≡ bands (intersection (pixels_of a) (pixels_of b))
      → IsListOf (intersection (pixels_of a) (pixels_of b)) (λ x y. covers a x y && covers b x y) made
  pub differences : (a b made : List Rectangle) → made ≡ bands (difference (pixels_of a) (pixels_of b))
      → IsListOf (difference (pixels_of a) (pixels_of b)) (λ x y. covers a x y && not (covers b x y)) made
  pub symmetric : (a b made : List Rectangle) → made ≡ bands (symmetric_difference (pixels_of a) (pixels_of b))
      → IsListOf (symmetric_difference (pixels_of a) (pixels_of b))
      (λ x y. (covers a x y && not (covers b x y)) || (covers b x y && not (covers a x y))) made
  pub single : (r : Rectangle) (x y : ℤ) → covers (r ∷ []) x y ≡ has_pixel r x y

-- each pixel of the list still has coordinates of 16 bits when it is moved by dx columns to the right and dy rows down
abbrev pub MayMove : List Rectangle → ℤ → ℤ → Type 0
MayMove rects dx dy = (x y : ℤ) → covers rects x y ≡ true → IsWord (x +ℤ dx) × IsWord (y +ℤ dy)

-- the list with each rectangle moved by dx columns to the right and dy rows down
abbrev pub moved_list : List Rectangle → ℤ → ℤ → List Rectangle
moved_list rects dx dy = map (λ r. moved_by r dx dy) rects

-- a pixel is in the moved list exactly where its former place is in the list, and what is moved of a canonical list is canonical
abbrev pub MovedListLaw : Type 0
MovedListLaw =
    ((rects : List Rectangle) (dx dy x y : ℤ) → covers (moved_list rects dx dy) x y ≡ covers rects (x -ℤ dx) (y -ℤ dy))
    × ((rects : List Rectangle) (dx dy : ℤ) → IsCanonical rects → IsCanonical (moved_list rects dx dy))

-- sets in reading order with the same pixels are one set
abbrev pub OneSetLaw : Type 0
OneSetLaw =
    (s t : List Pixel) → IsInOrder precedes s → IsInOrder precedes t → ((x y : ℤ) → contains_pixel s x y ≡ contains_pixel t x y)
    → s ≡ t

-- the rectangle with these bounds
abbrev pub rectangle : ℤ → ℤ → ℤ → ℤ → Rectangle
rectangle x₀ y₀ x₁ y₁ = record { min_x = x₀; min_y = y₀; max_x = x₁; max_y = y₁ }

-- a worked example: the pixels of 0 0 7 1 and of 2 1 5 2 that are not in both, in bands, and what 0 0 1 3 has of them
abbrev pub WorkedExample : Type 0
WorkedExample =
    let apart = symmetric_difference (rectangle_set (rectangle (pos 0) (pos 0) (pos 7) (pos 1)))
    (rectangle_set (rectangle (pos 2) (pos 1) (pos 5) (pos 2))) in
    (bands apart
    ≡ rectangle (pos 0) (pos 0) (pos 7) (pos 0) ∷ rectangle (pos 0) (pos 1) (pos 1) (pos 1)
    ∷ rectangle (pos 6) (pos 1) (pos 7) (pos 1)
    ∷ rectangle (pos 2) (pos 2) (pos 5) (pos 2) ∷ [])
    × (bands (intersection apart (rectangle_set (rectangle (pos 0) (pos 0) (pos 1) (pos 3))))
    ≡ rectangle (pos 0) (pos 0) (pos 1) (pos 1) ∷ [])
