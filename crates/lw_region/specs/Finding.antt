-- Where the pixels of a list in a row go on and where they begin again, from a column on to the right.
use Rattle.std.specs.Prelude.{◌≡◌, Bool, true, false, ◌&&◌, ◌||◌, Option, Some, None, List, ℤ, pos, ◌+ℤ◌, ◌<ℤ◌, ◌≤ℤ◌, int_lt}
use Rattle.std.specs.Prelude.{int_le}
use Rattle.lw_region.specs.Rectangle.{Rectangle, has_pixel}
use Rattle.lw_region.specs.Bands.{covers}

-- the list has the columns x to last of row y, and not the one after them
pub record RunsTo (rects : List Rectangle) (x y last : ℤ) : Type 0 where
  pub reaches : x ≤ℤ last
  pub covered : (u : ℤ) → x ≤ℤ u → u ≤ℤ last → covers rects u y ≡ true
  pub ended : covers rects (last +ℤ pos 1) y ≡ false

-- the last column of the run of pixels in row y that has column x, or none where the list does not have that pixel
abbrev pub IsRunEnd : List Rectangle → ℤ → ℤ → Option ℤ → Type 0
IsRunEnd rects x y (Some last) = RunsTo rects x y last
IsRunEnd rects x y None = covers rects x y ≡ false

-- of row y the list has column next, and none of the columns from x on before it
pub record BeginsAt (rects : List Rectangle) (x y next : ℤ) : Type 0 where
  pub reaches : x ≤ℤ next
  pub covered : covers rects next y ≡ true
  pub free : (u : ℤ) → x ≤ℤ u → u <ℤ next → covers rects u y ≡ false

-- the first column from x on that the list has in row y, or none where it has none of them
abbrev pub IsNextStart : List Rectangle → ℤ → ℤ → Option ℤ → Type 0
IsNextStart rects x y (Some next) = BeginsAt rects x y next
IsNextStart rects x y None = (u : ℤ) → x ≤ℤ u → covers rects u y ≡ false

-- Words of this crate's private contracts alone, from here on: the rectangle is above row y, or has that row and is left of
-- column x
abbrev pub is_before : ℤ → ℤ → Rectangle → Bool
is_before x y r = int_lt r.max_y y || (int_le r.min_y y && int_lt r.max_x x)

-- r is not before column x and row y, and tells what the list has of that row from column x on: what r has of it, up to
-- the column after r, and nothing where r is below the row
pub record IsNextRect (rects : List Rectangle) (x y : ℤ) (r : Rectangle) : Type 0 where
  pub row : y ≤ℤ r.max_y
  pub column : r.min_y ≤ℤ y → x ≤ℤ r.max_x
  pub same : (u : ℤ) → x ≤ℤ u → u ≤ℤ (r.max_x +ℤ pos 1) → covers rects u y ≡ has_pixel r u y
  pub over : y <ℤ r.min_y → (u : ℤ) → x ≤ℤ u → covers rects u y ≡ false
