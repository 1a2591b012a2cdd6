-- What becomes of planes once a row that they lent is given back.
use Rattle.std.specs.Prelude.{ℕ, List}
use Rattle.std.specs.Borrow.{Lends, MutBor, Fml, Array, u8}
use Rattle.lw_planes.specs.Bitmap.{Bitmap}
use Rattle.lw_planes.specs.Change.{with_row}
use Rattle.lw_planes.specs.contracts.planes.Planes.{the_row}

-- the planes lend the bytes of row y of plane k, and afterwards have there what these bytes then hold
abbrev pub LendsRow : MutBor Bitmap → ℕ → ℕ → MutBor (List ℕ) → Fml
LendsRow planes k y row = Lends the_row (Array u8 0) planes row (with_row planes.now k y)
