-- Rectangles of pixels (Graphics Primitives: the `Rectangle` structure of four signed words).
use Rattle.std.specs.Prelude.{◌≡◌, ℕ, Bool, false, ◌&&◌, ℤ, pos, negsuc, ◌+ℤ◌, ◌-ℤ◌, ◌≤ℤ◌, int_le, unsigned_abs}
use Rattle.std.specs.Int.{int_max, int_min}

-- A rectangle as its four bounds, each of them inclusive: it has the columns min_x to max_x and the rows min_y to max_y.
pub record Rectangle : Type 0 where
  pub min_x : ℤ
  pub min_y : ℤ
  pub max_x : ℤ
  pub max_y : ℤ

-- z is none below low and none above high
unfoldable pub within : ℤ → ℤ → ℤ → Bool
within low z high = int_le low z && int_le z high

-- the pixel at column x and row y is in the rectangle
abbrev pub has_pixel : Rectangle → ℤ → ℤ → Bool
has_pixel r x y = within r.min_x x r.max_x && within r.min_y y r.max_y

-- neither maximum is below its minimum, so some pixel is in the rectangle
pub record IsOrdered (r : Rectangle) : Type 0 where
  pub columns : r.min_x ≤ℤ r.max_x
  pub rows : r.min_y ≤ℤ r.max_y

-- how many columns and rows these bounds have, where bounds out of order have none or a negative number of them
abbrev pub columns_of : Rectangle → ℤ
columns_of r = (r.max_x +ℤ pos 1) -ℤ r.min_x

abbrev pub rows_of : Rectangle → ℤ
rows_of r = (r.max_y +ℤ pos 1) -ℤ r.min_y

-- how many columns and rows a rectangle with ordered bounds has
abbrev pub width : Rectangle → ℕ
width r = unsigned_abs (columns_of r)

abbrev pub height : Rectangle → ℕ
height r = unsigned_abs (rows_of r)

-- no pixel is in both rectangles
abbrev pub AreApart : Rectangle → Rectangle → Type 0
AreApart a b = (x y : ℤ) → (has_pixel a x y && has_pixel b x y) ≡ false

-- the larger of the minima and the smaller of the maxima
abbrev pub common_part : Rectangle → Rectangle → Rectangle
common_part a b = record {
  min_x = int_max a.min_x b.min_x;
  min_y = int_max a.min_y b.min_y;
  max_x = int_min a.max_x b.max_x;
  max_y = int_min a.max_y b.max_y;
}

-- the rectangle moved by dx columns to the right and dy rows down
abbrev pub moved_by : Rectangle → ℤ → ℤ → Rectangle
moved_by r dx dy = record {
  min_x = r.min_x +ℤ dx;
  min_y = r.min_y +ℤ dy;
  max_x = r.max_x +ℤ dx;
  max_y = r.max_y +ℤ dy;
}

-- z is a signed 16-bit word, from -32768 to 32767
abbrev pub IsWord : ℤ → Type 0
IsWord z = (negsuc 32767 ≤ℤ z) × (z ≤ℤ pos 32767)

-- all four bounds are signed 16-bit words
pub record HasWords (r : Rectangle) : Type 0 where
  pub left : IsWord r.min_x
  pub top : IsWord r.min_y
  pub right : IsWord r.max_x
  pub bottom : IsWord r.max_y
