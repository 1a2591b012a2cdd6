-- The canonical list of rectangles of a set of pixels: its y-x bands (the manual's regions; the form is this project's own).
use Rattle.std.specs.Prelude.{Bool, true, false, cond, ◌&&◌, List, [], ◌∷◌, map, ℤ, pos, ◌+ℤ◌, int_lt}
use Rattle.std.specs.List.{list_any, filter, flat_map}
use Rattle.std.specs.Ordering.{int_eq}
use Rattle.lw_region.specs.Rectangle.{Rectangle, has_pixel}
use Rattle.lw_region.specs.Order.{in_order}
use Rattle.lw_region.specs.Pixels.{Pixel}

-- a run of a row: the columns first to last, both inclusive
pub record Run : Type 0 where
  pub first : ℤ
  pub last : ℤ

-- a band: the rows top to bottom, both inclusive, each with the same runs
pub record Band : Type 0 where
  pub top : ℤ
  pub bottom : ℤ
  pub runs : List Run

-- the rows in which the set has pixels, downwards
abbrev pub rows_in : List Pixel → List ℤ
rows_in s = in_order int_lt (map (λ p. p.y) s)

-- the columns of the set's pixels in row y, from left to right
abbrev pub columns_in : List Pixel → ℤ → List ℤ
columns_in s y = in_order int_lt (map (λ p. p.x) (filter (λ p. int_eq p.y y) s))

-- column x before these runs, as part of the first one where that begins right after it
abbrev pub put_column : ℤ → List Run → List Run
put_column x [] = record { first = x; last = x } ∷ []
put_column x (r ∷ rs) =
    cond (int_eq (x +ℤ pos 1) r.first) (record { first = x; last = r.last } ∷ rs) (record { first = x; last = x } ∷ r ∷ rs)

-- the longest runs of neighbouring columns, from left to right
abbrev pub longest_runs : List ℤ → List Run
longest_runs [] = []
longest_runs (x ∷ xs) = put_column x (longest_runs xs)

-- both lists have the same runs
abbrev pub same_runs : List Run → List Run → Bool
same_runs [] [] = true
same_runs [] (s ∷ ss) = false
same_runs (r ∷ rs) [] = false
same_runs (r ∷ rs) (s ∷ ss) = (int_eq r.first s.first && int_eq r.last s.last) && same_runs rs ss

-- row y above these bands, as part of the first one where that begins right below it with the same runs
abbrev pub put_row : ℤ → List Run → List Band → List Band
put_row y runs [] = record { top = y; bottom = y; runs = runs } ∷ []
put_row y runs (b ∷ bs) =
    cond (int_eq (y +ℤ pos 1) b.top && same_runs runs b.runs)
    (record { top = y; bottom = b.bottom; runs = runs } ∷ bs)
    (record { top = y; bottom = y; runs = runs } ∷ b ∷ bs)

-- consecutive rows with equal runs, taken as long as possible; `runs_at` gives the runs of a row
abbrev pub tallest_bands : (ℤ → List Run) → List ℤ → List Band
tallest_bands runs_at [] = []
tallest_bands runs_at (y ∷ ys) = put_row y (runs_at y) (tallest_bands runs_at ys)

-- one rectangle for each run of the band
abbrev pub band_rectangles : Band → List Rectangle
band_rectangles b = map (λ r. record { min_x = r.first; min_y = b.top; max_x = r.last; max_y = b.bottom }) b.runs

-- the bands of the set as rectangles: band by band downwards, and run by run to the right
unfoldable pub bands : List Pixel → List Rectangle
bands s = flat_map band_rectangles (tallest_bands (λ y. longest_runs (columns_in s y)) (rows_in s))

-- some rectangle of the list has the pixel at column x and row y
unfoldable pub covers : List Rectangle → ℤ → ℤ → Bool
covers rects x y = list_any (λ r. has_pixel r x y) rects
