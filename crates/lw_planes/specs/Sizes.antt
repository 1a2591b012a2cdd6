-- The sizes of bitmaps that are kept as planes.
use Rattle.std.specs.Prelude.{ℕ, ◌≤◌}
use Rattle.lw_planes.specs.Bitmap.{Bitmap, IsBitmap}

-- 1 to 2048 columns, 1 to 2048 rows, 1 to 8 planes
pub record AreSizes (w h d : ℕ) : Type 0 where
  pub columns : (1 ≤ w) × (w ≤ 2048)
  pub rows : (1 ≤ h) × (h ≤ 2048)
  pub planes : (1 ≤ d) × (d ≤ 8)

-- a bitmap of such sizes
pub record IsPlanes (b : Bitmap) : Type 0 where
  pub bitmap : IsBitmap b
  pub sizes : AreSizes b.width b.height b.depth
