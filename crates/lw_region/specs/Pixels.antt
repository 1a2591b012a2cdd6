-- Sets of pixels. A set is the list of its pixels in reading order, each once: by row, then by column.
use Rattle.std.specs.Prelude.{Bool, ◌&&◌, ◌||◌, not, List, ◌++◌, map, ℤ, int_lt}
use Rattle.std.specs.List.{list_any, filter, flat_map}
use Rattle.std.specs.Ordering.{int_eq}
use Rattle.lw_region.specs.Rectangle.{Rectangle}
use Rattle.lw_region.specs.Order.{in_order, span}

-- a pixel by its column and its row
pub record Pixel : Type 0 where
  pub x : ℤ
  pub y : ℤ

-- p comes before q in reading order: it is in a row above, or in the same row to the left
abbrev pub precedes : Pixel → Pixel → Bool
precedes p q = int_lt p.y q.y || (int_eq p.y q.y && int_lt p.x q.x)

-- p is the pixel at column x and row y
abbrev pub is_at : ℤ → ℤ → Pixel → Bool
is_at x y p = int_eq p.x x && int_eq p.y y

-- the pixel at column x and row y is in the set
unfoldable pub contains_pixel : List Pixel → ℤ → ℤ → Bool
contains_pixel s x y = list_any (is_at x y) s

-- the pixels of one rectangle, row by row
abbrev pub rectangle_pixels : Rectangle → List Pixel
rectangle_pixels r = flat_map (λ y. map (λ x. record { x = x; y = y }) (span r.min_x r.max_x)) (span r.min_y r.max_y)

-- the set of the pixels that are in some rectangle of the list
unfoldable pub pixels_of : List Rectangle → List Pixel
pixels_of rects = in_order precedes (flat_map rectangle_pixels rects)

-- the pixels of s and those of t
unfoldable pub union : List Pixel → List Pixel → List Pixel
union s t = in_order precedes (s ++ t)

-- the pixels of s that t has too
unfoldable pub intersection : List Pixel → List Pixel → List Pixel
intersection s t = filter (λ p. contains_pixel t p.x p.y) s

-- the pixels of s that t has not
unfoldable pub difference : List Pixel → List Pixel → List Pixel
difference s t = filter (λ p. not (contains_pixel t p.x p.y)) s

-- the pixels that one of s and t has and the other has not
unfoldable pub symmetric_difference : List Pixel → List Pixel → List Pixel
symmetric_difference s t = union (difference s t) (difference t s)
