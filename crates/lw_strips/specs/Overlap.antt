-- For private contracts.
-- What a bitmap has of an area of columns and rows, which may lie off it.
use Rattle.std.specs.Prelude.{◌≡◌, ℕ, ◌+◌, ◌<◌, ◌≤◌, false, ℤ, pos, ◌+ℤ◌, ◌-ℤ◌}
use Rattle.lw_region.specs.Rectangle.{Rectangle, within, has_pixel}
use Rattle.lw_planes.specs.Bitmap.{Bitmap}
use Rattle.lw_kernels.specs.Kernel.{is_named}
use Rattle.lw_strips.specs.declared.block.Block.{Block}
use Rattle.lw_strips.specs.declared.overlap.Part.{Part}

-- Along one axis, of n places from 0 on and m places from `place` on: those that both have are `count` from `at` on, of which the
-- first is the number `source` of the m places.
pub record AreCommon (place : ℤ) (m n at source count : ℕ) : Type 0 where
  pub same : pos at ≡ place +ℤ pos source
  pub inside : at + count ≤ n
  pub source_inside : source + count ≤ m
  pub named : (i : ℕ) → i < n → is_named at count i ≡ within place (pos i) ((place +ℤ pos m) -ℤ pos 1)

abbrev pub IsPart : ℤ → ℕ → ℕ → Part → Type 0
IsPart place m n p = AreCommon place m n p.at p.source p.count

-- no place is in both
abbrev pub IsOff : ℤ → ℕ → ℕ → Type 0
IsOff place m n = (i : ℕ) → i < n → within place (pos i) ((place +ℤ pos m) -ℤ pos 1) ≡ false

-- the block is what the bitmap has of w columns and h rows from its pixel (x, y) on
pub record IsOverlap (x y : ℤ) (w h : ℕ) (to : Bitmap) (k : Block) : Type 0 where
  pub columns : AreCommon x w to.width k.x k.source_x k.width
  pub rows : AreCommon y h to.height k.y k.source_y k.height

-- the bitmap has no pixel of the area
abbrev pub AreOff : Rectangle → Bitmap → Type 0
AreOff r to = (i j : ℕ) → i < to.width → j < to.height → has_pixel r (pos i) (pos j) ≡ false
