-- What becomes of a strip once rows that it lent are given back.
use Rattle.std.specs.Prelude.{◌≡◌, ℕ, ◌+◌, ◌*◌, ◌^◌, ◌<◌, List, length}
use Rattle.std.specs.Int.{bit_at}
use Rattle.std.specs.Borrow.{Lends, MutBor, Fml, Array, u8}
use Rattle.lw_planes.specs.Row.{row_bit}
use Rattle.lw_planes.specs.Bitmap.{Bitmap, pen_at, row_bytes}
use Rattle.lw_planes.specs.Change.{with_row}
use Rattle.lw_strips.specs.Strips.{StripView}
use Rattle.lw_strips.specs.contracts.strip.Strip.{the_row}

-- these bytes are rows of a plane of the bitmap from row y on, one after another
pub record AreRowsOf (b : Bitmap) (plane y rows : ℕ) (bytes : List ℕ) : Type 0 where
  pub long : length bytes ≡ rows * row_bytes b.width
  pub near : length bytes < 2 ^ 32
  pub bits : (x j : ℕ) → x < b.width → j < rows
      → row_bit bytes (8 * (j * row_bytes b.width) + x) ≡ bit_at (pen_at b x (y + j)) plane

-- the strip lends bytes of rows of a plane from row y on, and afterwards has there what these bytes then hold
abbrev pub LendsRows : MutBor StripView → ℕ → ℕ → MutBor (List ℕ) → Fml
LendsRows strip plane y row =
    Lends the_row (Array u8 0) strip row (λ bytes. record strip.now { planes = with_row strip.now.planes plane y bytes })
