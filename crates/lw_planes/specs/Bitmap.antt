-- Bitmaps and their planes (Graphics Primitives: bitmaps, bit planes).
use Rattle.std.specs.Prelude.{◌≡◌, ℕ, ◌+◌, ◌*◌, ◌/◌, ◌^◌, ◌<◌, nat_lt, if◌then◌else◌, List, [], map, length}
use Rattle.std.specs.Int.{bit_at}
use Rattle.std.specs.List.{range_with_len, slice_index_or}
use Rattle.lw_planes.specs.Grid.{grid, at}
use Rattle.lw_planes.specs.Pen.{byte_of}

-- A bitmap: how many columns, rows and planes it has, and its pens row by row.
pub record Bitmap : Type 0 where
  pub width : ℕ
  pub height : ℕ
  pub depth : ℕ
  pub rows : List (List ℕ)

-- The bitmap of this size that has the pen f x y at column x and row y.
abbrev pub bitmap : ℕ → ℕ → ℕ → (ℕ → ℕ → ℕ) → Bitmap
bitmap w h d f = record { width = w; height = h; depth = d; rows = grid w h f }

-- the pen at column x and row y, and 0 outside the bitmap
abbrev pub pen_at : Bitmap → ℕ → ℕ → ℕ
pen_at b x y = at 0 b.rows x y

-- row y, and no pens below the bitmap
abbrev pub row_at : Bitmap → ℕ → List ℕ
row_at b y = slice_index_or b.rows y []

-- A table of this size whose every pen is below 2 ^ depth.
pub record IsBitmap (b : Bitmap) : Type 0 where
  pub rows : length b.rows ≡ b.height
  pub columns : (y : ℕ) → y < b.height → length (row_at b y) ≡ b.width
  pub pens : (x y : ℕ) → x < b.width → y < b.height → pen_at b x y < 2 ^ b.depth

-- how many bytes a row of a plane has: a row is padded to whole words of 16 bits
abbrev pub row_bytes : ℕ → ℕ
row_bytes w = ((w + 15) / 16) * 2

-- Plane k's bit at column x and row y: bit k of the pen there, and 0 in the padding.
abbrev pub plane_bit : Bitmap → ℕ → ℕ → ℕ → ℕ
plane_bit b k x y = if nat_lt x b.width then bit_at (pen_at b x y) k else 0

-- The bytes of row y of plane k. The most significant bit of a byte is the leftmost pixel.
unfoldable pub plane_row : Bitmap → ℕ → ℕ → List ℕ
plane_row b k y = map (λ i. byte_of (λ j. plane_bit b k (8 * i + j) y)) (range_with_len 0 (row_bytes b.width))
