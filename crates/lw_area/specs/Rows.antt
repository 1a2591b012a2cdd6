-- For private contracts.
-- The edges that cross a row, the half rows that they begin, and the runs that are made of a row so far.
use Rattle.std.specs.Prelude.{◌≡◌, ℕ, ◌+◌, length, reverse, Bool, false, ◌&&◌, cond, List, [], ◌∷◌, ℤ, pos, negsuc, ◌+ℤ◌, ◌-ℤ◌}
use Rattle.std.specs.Prelude.{◌<ℤ◌, ◌≤ℤ◌, int_lt, int_le}
use Rattle.std.specs.List.{All}
use Rattle.lw_region.specs.Order.{IsInOrder}
use Rattle.lw_region.specs.Bands.{Run, Band, put_row}
use Rattle.lw_region.specs.Banded.{in_runs, AreRuns, flat}
use Rattle.lw_area.specs.declared.slab.Edge.{Edge}
use Rattle.lw_area.specs.declared.point.Point.{Point}
use Rattle.lw_area.specs.Polygons.{Side, passes, holds_of_odd, is_inside}
use Rattle.lw_area.specs.Patterns.{word_has}

-- the edge from a down to b, where it crosses the row
abbrev pub crossing_down : ℤ → Point → Point → List Edge → List Edge
crossing_down row a b others = cond (int_le a.y row && int_lt row b.y) (record { upper = a; lower = b } ∷ []) others

-- the edge with its ends in order, where it crosses the row
abbrev pub crossing : ℤ → Side → List Edge
crossing row s = crossing_down row s.from s.to (crossing_down row s.to s.from [])

-- both coordinates are from -2048 to 4095
pub record IsInRange (p : Point) : Type 0 where
  pub column : (negsuc 2047 ≤ℤ p.x) × (p.x ≤ℤ pos 4095)
  pub row : (negsuc 2047 ≤ℤ p.y) × (p.y ≤ℤ pos 4095)

-- both ends are in range, and the edge crosses the row
pub record Crosses (row : ℤ) (e : Edge) : Type 0 where
  pub upper : IsInRange e.upper
  pub lower : IsInRange e.lower
  pub begun : e.upper.y ≤ℤ row
  pub ahead : row <ℤ e.lower.y

-- the edge is left of the pixel
abbrev pub is_passed : ℤ → ℤ → Edge → Bool
is_passed x y e = passes e.upper e.lower x y

-- a column of a pixel that may be inside, or the one after it
abbrev pub IsColumn : ℤ → Type 0
IsColumn z = (negsuc 2047 ≤ℤ z) × (z ≤ℤ pos 4095)

-- each of these is one
abbrev pub HaveColumns : List ℤ → Type 0
HaveColumns [] = Unit {0}
HaveColumns (c ∷ cs) = IsColumn c × HaveColumns cs

-- the columns from left to right with one more, or without it where it was among them
abbrev pub toggled : ℤ → List ℤ → List ℤ
toggled c [] = c ∷ []
toggled c (d ∷ ds) = cond (int_lt d c) (d ∷ toggled c ds) (cond (int_lt c d) (c ∷ d ∷ ds) ds)

-- an odd number of these columns is none right of column x
abbrev pub odd_columns : List ℤ → ℤ → Bool
odd_columns cs x = holds_of_odd (λ c. int_le c x) cs

-- the columns at which an odd number of the half rows of these edges begin, from left to right
pub record AreColumns (edges : List Edge) (row : ℤ) (cs : List ℤ) : Type 0 where
  pub rising : IsInOrder int_lt cs
  pub range : HaveColumns cs
  pub odd : (x : ℤ) → odd_columns cs x ≡ holds_of_odd (is_passed x row) edges

-- each run ends left of this column
abbrev pub EndBefore : ℤ → List Run → Type 0
EndBefore z [] = Unit {0}
EndBefore z (r ∷ rs) = (r.last <ℤ z) × EndBefore z rs

-- the runs are those of the columns that are due left of column `at`, and one that begins there doesn't touch them
pub record AreUntil (at : ℤ) (due : ℤ → Bool) (runs : List Run) : Type 0 where
  pub made : AreRuns runs
  pub ends : EndBefore (at -ℤ pos 1) runs
  pub has : (x : ℤ) → in_runs runs x ≡ (int_lt x at && due x)

-- Of the columns `first` to `last` those are due whose bits are 1, and not the one after them: so the runs go on with these.
abbrev pub GoOn : ℕ → ℤ → ℤ → List Run → List Run → Type 0
GoOn word first last before after =
    (due : ℤ → Bool) → AreUntil first due before → ((x : ℤ) → first ≤ℤ x → x ≤ℤ last → due x ≡ word_has word x)
    → due (last +ℤ pos 1) ≡ false → AreUntil (last +ℤ pos 2) due after

-- what a row makes of bands that are kept from the lowest up, and how many rectangles these then have
pub record IsPut (row : ℤ) (runs : List Run) (is_new : Bool) (before after : List Band) : Type 0 where
  pub bands : reverse after ≡ put_row row runs (reverse before)
  pub count : length (flat (reverse after)) ≡ length (flat (reverse before)) + cond is_new (length runs) 0

-- what a row with or without runs makes of them, where so many rectangles come with it
pub record IsRowPut (row : ℤ) (runs : List Run) (more : ℕ) (before after : List Band) : Type 0 where
  pub none : runs ≡ [] → after ≡ before
  pub some : (runs ≡ [] → ⊥) → reverse after ≡ put_row row runs (reverse before)
  pub count : length (flat (reverse after)) ≡ length (flat (reverse before)) + more

-- the runs of the pixels that an odd number of these edges is left of, and whose bits are 1
pub record AreRunsOf (word : ℕ) (row : ℤ) (edges : List Edge) (runs : List Run) : Type 0 where
  pub made : AreRuns runs
  pub has : (x : ℤ) → in_runs runs x ≡ (holds_of_odd (is_passed x row) edges && word_has word x)

-- in each row from `top` to the one above `below` these edges cross the row, and of them an odd number is left of a pixel where
-- that is so of the polygon's edges
pub record IsSlab (points : List Point) (top below : ℤ) (edges : List Edge) : Type 0 where
  pub crosses : (r : ℤ) → top ≤ℤ r → r <ℤ below → All (Crosses r) edges
  pub odd : (r x : ℤ) → top ≤ℤ r → r <ℤ below → holds_of_odd (is_passed x r) edges ≡ is_inside points x r
