-- For private contracts.
-- The rectangles of a band as runs of columns, and what the merge of two bands makes.
use Rattle.std.specs.Prelude.{◌≡◌, Bool, cond, List, [], ◌∷◌, ◌++◌, map, ℤ, pos, ◌+ℤ◌, int_le}
use Rattle.lw_region.specs.declared.operation.Operation.{Operation}
use Rattle.lw_region.specs.Rectangle.{Rectangle}
use Rattle.lw_region.specs.Bands.{Run}
use Rattle.lw_region.specs.Banded.{in_runs, AreRuns}
use Rattle.lw_region.specs.Operations.{holds}

-- the runs of columns that these rectangles have
abbrev pub columns : List Rectangle → List Run
columns rects = map (λ r. record { first = r.min_x; last = r.max_x }) rects

-- where the first rectangle begins, or far past the range
unfoldable pub first_column : List Rectangle → ℤ
first_column [] = pos 65536
first_column (r ∷ rs) = r.min_x

-- the last column of the first rectangle, or far past the range
unfoldable pub first_end : List Rectangle → ℤ
first_end [] = pos 65536
first_end (r ∷ rs) = r.max_x

-- the rectangles without the first one
unfoldable pub others : List Rectangle → List Rectangle
others [] = []
others (r ∷ rs) = rs

-- the next column at which the first rectangle begins, or is over where it has begun already
unfoldable pub next_bound : Bool → List Rectangle → ℤ
next_bound begun rects = cond begun (first_end rects +ℤ pos 1) (first_column rects)

-- the rectangles that are not over there
unfoldable pub behind_bound : Bool → List Rectangle → List Rectangle
behind_bound begun rects = cond begun (others rects) rects

-- the run from the first column to the last, if that is not left of it
unfoldable pub some_run : ℤ → ℤ → List Run
some_run first last = cond (int_le first last) (record { first = first; last = last } ∷ []) []

-- the rectangles of these runs in the rows top to bottom
unfoldable pub run_rectangles : ℤ → ℤ → List Run → List Rectangle
run_rectangles top bottom rs = map (λ r. record { min_x = r.first; min_y = top; max_x = r.last; max_y = bottom }) rs

-- `after` is `before` with the longest runs of those columns after it for which the operation holds on the columns of a and b
pub record IsRowOf (operation : Operation) (a b : List Rectangle) (top bottom : ℤ) (before after : List Rectangle) : Type 0 where
  pub runs : List Run
  pub made : after ≡ before ++ run_rectangles top bottom runs
  pub are : AreRuns runs
  pub has : (x : ℤ) → in_runs runs x ≡ holds operation (in_runs (columns a) x) (in_runs (columns b) x)
