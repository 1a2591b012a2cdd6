-- For private contracts.
-- The rectangles of a region as bands of rows, and the sweep over the rows of two regions.
use Rattle.std.specs.Prelude.{ℕ, Bool, true, false, cond, ◌&&◌, Option, Some, None, List, [], ◌∷◌, ◌++◌, map, take, drop}
use Rattle.std.specs.Prelude.{length, ℤ, pos, ◌+ℤ◌, int_lt, int_le, nat_lt}
use Rattle.std.specs.List.{prefix_len, between}
use Rattle.std.specs.Int.{int_max}
use Rattle.std.specs.Ordering.{int_eq}
use Rattle.lw_region.specs.Rectangle.{Rectangle}
use Rattle.lw_region.specs.Columns.{columns, run_rectangles}

-- how many rectangles the list begins with that have this top row
unfoldable pub band_length : ℤ → List Rectangle → ℕ
band_length top rects = prefix_len (λ r. int_eq r.min_y top) rects

-- how many rectangles the first band has
unfoldable pub first_length : List Rectangle → ℕ
first_length [] = 0
first_length (r ∷ rs) = band_length r.min_y (r ∷ rs)

-- where the first band begins, or the end of the range
unfoldable pub first_row : List Rectangle → ℤ
first_row [] = pos 32768
first_row (r ∷ rs) = r.min_y

-- the next row from y on at which the first band begins or is over, or the end of the range
unfoldable pub next_row : List Rectangle → ℤ → ℤ
next_row [] y = pos 32768
next_row (r ∷ rs) y = cond (int_lt y r.min_y) r.min_y (r.max_y +ℤ pos 1)

-- the first band, where it has begun at row y
unfoldable pub begun_band : List Rectangle → ℤ → List Rectangle
begun_band [] y = []
begun_band (r ∷ rs) y = cond (int_le r.min_y y) (take (band_length r.min_y (r ∷ rs)) (r ∷ rs)) []

-- the rectangles without the first band, where that ends before row y
unfoldable pub from_row : List Rectangle → ℤ → List Rectangle
from_row [] y = []
from_row (r ∷ rs) y = cond (int_lt r.max_y y) (drop (band_length r.min_y (r ∷ rs)) (r ∷ rs)) (r ∷ rs)

-- both bands have the same columns, rectangle by rectangle
abbrev pub same_columns : List Rectangle → List Rectangle → Bool
same_columns [] [] = true
same_columns [] (s ∷ ss) = false
same_columns (r ∷ rs) [] = false
same_columns (r ∷ rs) (s ∷ ss) = (int_eq r.min_x s.min_x && int_eq r.max_x s.max_x) && same_columns rs ss

-- the bottom row of the lower band, where it goes on right below the upper one with the same columns
unfoldable pub joined_bottom : List Rectangle → List Rectangle → Option ℤ
joined_bottom [] lower = None
joined_bottom (q ∷ qs) [] = None
joined_bottom (q ∷ qs) (r ∷ rs) =
    cond (int_eq (q.max_y +ℤ pos 1) r.min_y && same_columns (q ∷ qs) (r ∷ rs)) (Some r.max_y) None

-- the rectangle reaching down to this row at least
abbrev pub down_to : Rectangle → ℤ → Rectangle
down_to r bottom = record { min_x = r.min_x; min_y = r.min_y; max_x = r.max_x; max_y = int_max r.max_y bottom }

-- the list with its last band from `last` to `start` and a further one from `start` on joined, where they have this bottom row in
-- common
abbrev pub joined_rects : Option ℤ → List Rectangle → ℕ → ℕ → List Rectangle
joined_rects None rects last start = rects
joined_rects (Some bottom) rects last start = take last rects ++ map (λ r. down_to r bottom) (between last start rects)

-- where the last band begins then
abbrev pub last_place : Option ℤ → List Rectangle → ℕ → ℕ → ℕ
last_place None rects last start = cond (nat_lt start (length rects)) start last
last_place (Some bottom) rects last start = last

-- the list with a further band from its end on, joined to its last band, from `last` on, where it goes on with the same columns
abbrev pub joined_to : List Rectangle → ℕ → List Rectangle → List Rectangle
joined_to out last band =
    joined_rects (joined_bottom (between last (length out) (out ++ band)) (drop (length out) (out ++ band))) (out ++ band) last
    (length out)

-- the list with all that is left of a region from row y on: its first band, and the others as they are
unfoldable pub with_rest : List Rectangle → ℤ → ℕ → List Rectangle → List Rectangle
with_rest [] y last out = out
with_rest (r ∷ rs) y last out =
    joined_to out last (run_rectangles (int_max y r.min_y) r.max_y (columns (take (first_length (r ∷ rs)) (r ∷ rs))))
    ++ drop (first_length (r ∷ rs)) (r ∷ rs)
