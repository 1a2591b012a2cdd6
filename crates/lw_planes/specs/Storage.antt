-- Where a bitmap's bits stand in one list of bytes: plane after plane, and in each plane row after row.
use Rattle.std.specs.Prelude.{◌≡◌, ℕ, ◌+◌, ◌*◌, List, length}
use Rattle.lw_planes.specs.Pen.{pen_of}
use Rattle.lw_planes.specs.Row.{row_bit}
use Rattle.lw_planes.specs.Bitmap.{Bitmap, bitmap, row_bytes}
use Rattle.lw_planes.specs.Sizes.{AreSizes}

-- the byte with which row y of plane k begins, where a plane has h rows of n bytes
abbrev pub row_start : ℕ → ℕ → ℕ → ℕ → ℕ
row_start h n k y = (k * h + y) * n

-- the place among all bits of plane k's bit at column x and row y of a bitmap w columns wide and h rows high
unfoldable pub bit_place : ℕ → ℕ → ℕ → ℕ → ℕ → ℕ
bit_place w h k x y = 8 * row_start h (row_bytes w) k y + x

-- the bitmap of w columns, h rows and d planes whose planes are these bytes
abbrev pub stored : ℕ → ℕ → ℕ → List ℕ → Bitmap
stored w h d bytes = bitmap w h d (λ x y. pen_of d (λ k. row_bit bytes (bit_place w h k x y)))

-- bytes for a bitmap of these sizes
pub record IsStored (w h d : ℕ) (bytes : List ℕ) : Type 0 where
  pub sizes : AreSizes w h d
  pub long : length bytes ≡ d * h * row_bytes w
