-- Changes of a bitmap.
use Rattle.std.specs.Prelude.{ℕ, ◌+◌, ◌-◌, ◌*◌, ◌==◌, nat_lt, nat_le, ◌&&◌, if◌then◌else◌, List, length}
use Rattle.std.specs.Int.{bit_at}
use Rattle.lw_planes.specs.Grid.{grid}
use Rattle.lw_planes.specs.Pen.{pen_of}
use Rattle.lw_planes.specs.Row.{row_bit}
use Rattle.lw_planes.specs.Bitmap.{Bitmap, bitmap, pen_at}
use Rattle.lw_planes.specs.Storage.{bit_place}

-- the bitmap with this pen at column x and row y, and every other pen as it was
abbrev pub with_pen : Bitmap → ℕ → ℕ → ℕ → Bitmap
with_pen b x y pen = record b { rows = grid b.width b.height (λ i j. if i == x && j == y then pen else pen_at b i j) }

-- The bit old of plane p at column i and row j of a bitmap w columns wide and h rows high, once these bytes were written over
-- those of its planes from row y of plane k on.
abbrev pub overwritten_bit : ℕ → ℕ → ℕ → ℕ → List ℕ → ℕ → ℕ → ℕ → ℕ → ℕ
overwritten_bit w h k y bytes i j p old =
    let from = bit_place w h k 0 y in
    let place = bit_place w h p i j in
    if nat_le from place && nat_lt place (from + 8 * length bytes)
    then row_bit bytes (place - from)
    else old

-- Plane p's bit at column i and row j, once these bytes were written over those of the planes from row y of plane k on.
abbrev pub written_bit : Bitmap → ℕ → ℕ → List ℕ → ℕ → ℕ → ℕ → ℕ
written_bit b k y bytes i j p = overwritten_bit b.width b.height k y bytes i j p (bit_at (pen_at b i j) p)

-- the pens once these bytes were written over those of the planes from row y of plane k on
unfoldable pub written_rows : Bitmap → ℕ → ℕ → List ℕ → List (List ℕ)
written_rows b k y bytes = grid b.width b.height (λ i j. pen_of b.depth (λ p. written_bit b k y bytes i j p))

-- The bitmap once these bytes were written over those of its planes from row y of plane k on, so that as many bytes as a
-- row has change this row alone: each pixel of the row then has in plane k the bit that the bytes hold, and all else is
-- as it was.
abbrev pub with_row : Bitmap → ℕ → ℕ → List ℕ → Bitmap
with_row b k y bytes = record b { rows = written_rows b k y bytes }

-- the bitmap whose pixels of row y have these bits in plane k, and all else as it was
abbrev pub with_plane_row : Bitmap → ℕ → ℕ → (ℕ → ℕ) → Bitmap
with_plane_row b k y bits =
    bitmap b.width b.height b.depth (λ i j. pen_of b.depth (λ p. if p == k && j == y then bits i else bit_at (pen_at b i j) p))
