-- For private contracts.
-- Rows that a strip's pens lend, if they have a bitmap.
use Rattle.std.specs.Prelude.{ℕ, ◌+◌, ◌<◌, ◌≤◌, List, Option, Some, None}
use Rattle.std.specs.Borrow.{Lends, MutBor, Fml, Array, u8}
use Rattle.lw_planes.specs.Bitmap.{Bitmap}
use Rattle.lw_planes.specs.Change.{with_row}
use Rattle.lw_strips.specs.Blocks.{IsBlockOf, with_block}
use Rattle.lw_strips.specs.Lending.{AreRowsOf}
use Rattle.lw_strips.specs.declared.block.Block.{Block}
use Rattle.lw_strips.specs.declared.strip.Pens.{Pens}
use Rattle.lw_strips.specs.contracts.strip.Pens.{the_row}

-- there is a bitmap, and it has this plane and these rows
abbrev pub HaveRows : Option Bitmap → ℕ → ℕ → ℕ → Type 0
HaveRows None plane y rows = ⊥
HaveRows (Some b) plane y rows = (plane < b.depth) × (y + rows ≤ b.height)

-- the bytes are those rows
abbrev pub AreRows : Option Bitmap → ℕ → ℕ → ℕ → List ℕ → Type 0
AreRows None plane y rows bytes = ⊥
AreRows (Some b) plane y rows bytes = AreRowsOf b plane y rows bytes

-- the bitmap with these bytes, if there is one
abbrev pub changed : ℕ → ℕ → List ℕ → Option Bitmap → Option Bitmap
changed plane y bytes None = None
changed plane y bytes (Some b) = Some (with_row b plane y bytes)

abbrev pub LendsPens : MutBor Pens → ℕ → ℕ → MutBor (List ℕ) → Fml
LendsPens pens plane y row =
    Lends the_row (Array u8 0) pens row (λ bytes. record pens.now { planes = changed plane y bytes pens.now.planes })

-- there is a bitmap, and it has the block
abbrev pub HaveBlock : Option Bitmap → Block → Bitmap → Type 0
HaveBlock None k source = ⊥
HaveBlock (Some b) k source = IsBlockOf k b source

-- the bitmap with the block of the other one, if there is one
abbrev pub with_copy : Block → Bitmap → Option Bitmap → Option Bitmap
with_copy k source None = None
with_copy k source (Some b) = Some (with_block k source b)
