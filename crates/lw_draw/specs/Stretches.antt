-- Runs of drawable or kept pixels in a row of a layer, one after another.
use Rattle.std.specs.Prelude.{◌≡◌, ℕ, ◌+◌, ◌≤◌, Bool, false, ℤ, pos, ◌-ℤ◌, Option, Some, None}
use Rattle.lw_machine.specs.Kept.{holds_at}
use Rattle.lw_layer.specs.View.{LiveView, keeps, draws}
use Rattle.lw_layer.specs.Runs.{IsRun, IsFirst, IsNext}
use Rattle.lw_draw.specs.declared.stretch.Stretch.{Stretch}

-- a run from the first pixel in row y from column x on, before end, for which the test holds
pub record IsFirstOf (c : LiveView) (test : ℕ → ℕ → Bool) (x y end : ℕ) (s : Stretch) : Type 0 where
  pub row : s.y ≡ y
  pub column : IsFirst test (pos x) (pos y) (pos end -ℤ pos 1) (pos s.x)
  pub ends : s.x + s.run.len ≤ end
  pub run : IsRun c test s.x s.y s.run

-- the first run of drawable pixels there
abbrev pub IsFirstStretch : LiveView → ℕ → ℕ → ℕ → Stretch → Type 0
IsFirstStretch c x y end s = IsFirstOf c (λ i j. draws c i j) x y end s

abbrev pub IsNextStretch : LiveView → ℕ → ℕ → ℕ → Option Stretch → Type 0
IsNextStretch c x y end None = IsNext (λ i j. draws c i j) (pos x) (pos y) (pos end -ℤ pos 1) None
IsNextStretch c x y end (Some s) = IsFirstStretch c x y end s

-- the first run of kept pixels there, or none where there is no kept pixel
abbrev pub IsNextKept : LiveView → ℕ → ℕ → ℕ → Option Stretch → Type 0
IsNextKept c x y end None = IsNext (λ i j. keeps c i j) (pos x) (pos y) (pos end -ℤ pos 1) None
IsNextKept c x y end (Some s) = IsFirstOf c (λ i j. keeps c i j) x y end s

-- the one drawable pixel at a column and a row
pub record IsPixel (c : LiveView) (x y : ℤ) (s : Stretch) : Type 0 where
  pub column : x ≡ pos s.x
  pub row : y ≡ pos s.y
  pub one : s.run.len ≡ 1
  pub run : IsRun c (λ i j. draws c i j) s.x s.y s.run

-- that pixel, or none where it isn't drawable
abbrev pub IsPixelAt : LiveView → ℤ → ℤ → Option Stretch → Type 0
IsPixelAt c x y None = holds_at (λ i j. draws c i j) x y ≡ false
IsPixelAt c x y (Some s) = IsPixel c x y s
