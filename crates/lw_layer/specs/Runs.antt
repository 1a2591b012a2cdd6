-- Runs of pixels in a row of a layer, the next pixel of which something holds, and rows that are alike.
use Rattle.std.specs.Prelude.{◌≡◌, ℕ, ◌+◌, ◌<◌, ◌≤◌, Bool, true, false, ℤ, pos, negsuc, ◌<ℤ◌, ◌≤ℤ◌, Option, Some, None}
use Rattle.lw_region.specs.Rectangle.{width}
use Rattle.lw_machine.specs.Kept.{holds_at}
use Rattle.lw_layer.specs.View.{LiveView, keeps, draws}
use Rattle.lw_layer.specs.Pieces.{layout_of, buffer_rectangle, buffer_at, column_in, in_line, HasLine}
use Rattle.lw_layer.specs.declared.run.Run.{Run}

-- A run from the pixel (x, y) on to the right: for each of its pixels the test holds and the pen is in the run's line of the
-- run's buffer, where the first pixel has the run's bit and the others the next bits.
pub record IsRun (c : LiveView) (test : ℕ → ℕ → Bool) (x y : ℕ) (r : Run) : Type 0 where
  pub some : 0 < r.len
  pub there : HasLine (layout_of c) r.buffer r.line
  pub holds : (u : ℕ) → x ≤ u → u < x + r.len → test u y ≡ true
  pub inside : (u : ℕ) → x ≤ u → u < x + r.len → in_line (layout_of c) r.buffer r.line u y ≡ true
  pub fits : r.bit + r.len ≤ width (buffer_rectangle (layout_of c) r.buffer)
  pub bits : (u : ℕ) → x ≤ u → u < x + r.len → column_in (layout_of c) r.buffer u + x ≡ r.bit + u

-- a run from a pixel for which the test holds, or none where it doesn't hold
abbrev pub IsRunAt : LiveView → (ℕ → ℕ → Bool) → ℤ → ℤ → Option Run → Type 0
IsRunAt c test x y None = holds_at test x y ≡ false
IsRunAt c test (pos x) (pos y) (Some r) = IsRun c test x y r
IsRunAt c test (pos x) (negsuc y) (Some r) = ⊥
IsRunAt c test (negsuc x) y (Some r) = ⊥

-- the first column from x to last of row y for which the test holds
pub record IsFirst (test : ℕ → ℕ → Bool) (x y last column : ℤ) : Type 0 where
  pub reaches : x ≤ℤ column
  pub ends : column ≤ℤ last
  pub holds : holds_at test column y ≡ true
  pub before : (u : ℤ) → x ≤ℤ u → u <ℤ column → holds_at test u y ≡ false

-- the first such column, or none where there is none
abbrev pub IsNext : (ℕ → ℕ → Bool) → ℤ → ℤ → ℤ → Option ℤ → Type 0
IsNext test x y last (Some column) = IsFirst test x y last column
IsNext test x y last None = (u : ℤ) → x ≤ℤ u → u ≤ℤ last → holds_at test u y ≡ false

-- Two rows of a layer are alike: of each column both pixels have their pens in the same buffer or none has one, both are kept or
-- neither, and both are drawable or neither.
pub record AreAlike (c : LiveView) (y j : ℕ) : Type 0 where
  pub found : (x : ℕ) → buffer_at (layout_of c) x y ≡ buffer_at (layout_of c) x j
  pub kept : (x : ℕ) → keeps c x y ≡ keeps c x j
  pub drawn : (x : ℕ) → draws c x y ≡ draws c x j
