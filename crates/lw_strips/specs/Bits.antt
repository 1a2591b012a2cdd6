-- For private contracts.
-- Bitmaps some of whose bits are those of other pens.
use Rattle.std.specs.Prelude.{ℕ, Bool, if◌then◌else◌}
use Rattle.std.specs.Int.{bit_at}
use Rattle.lw_planes.specs.Pen.{pen_of}
use Rattle.lw_planes.specs.Bitmap.{Bitmap, bitmap, pen_at}

-- The bitmap with the bits of these pens where the test holds, for a plane, a column and a row. Each other bit is as it was.
unfoldable pub with_bits : (ℕ → ℕ → ℕ → Bool) → (ℕ → ℕ → ℕ) → Bitmap → Bitmap
with_bits on pens b =
    bitmap b.width b.height b.depth
    (λ x y. pen_of b.depth (λ p. if on p x y then bit_at (pens x y) p else bit_at (pen_at b x y) p))
