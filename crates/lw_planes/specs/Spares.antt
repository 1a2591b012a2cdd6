-- Bitmaps over memory of former ones.
use Rattle.std.specs.Prelude.{◌≡◌, ℕ}
use Rattle.lw_planes.specs.Bitmap.{Bitmap}

-- a bitmap of these sizes, whose pens may be any
pub record HasSizes (w h d : ℕ) (b : Bitmap) : Type 0 where
  pub wide : b.width ≡ w
  pub high : b.height ≡ h
  pub deep : b.depth ≡ d
