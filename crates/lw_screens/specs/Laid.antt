-- For private contracts.
-- Rows of screens that are laid on a display, band after band.
use Rattle.std.specs.Prelude.{◌≡◌, ℕ, ◌+◌, ◌<◌, ◌≤◌, ◌&&◌, nat_le, if◌then◌else◌}
use Rattle.lw_planes.specs.Bitmap.{Bitmap, bitmap, pen_at}
use Rattle.lw_strips.specs.declared.block.Block.{Block}
use Rattle.lw_screens.specs.Display.{Display, owner_of}
use Rattle.lw_screens.specs.declared.bands.Band.{Band}

-- rows of the display that have the band's owner
pub record IsBandOf (d : Display) (b : Band) : Type 0 where
  pub order : b.first ≤ b.last
  pub inside : b.last < d.height
  pub owned : (y : ℕ) → b.first ≤ y → y ≤ b.last → owner_of d y ≡ b.screen

-- the bitmap has pen 0 in the rows from the first to the last
abbrev pub AreBlank : ℕ → ℕ → Bitmap → Type 0
AreBlank first last b = (x y : ℕ) → x < b.width → first ≤ y → y ≤ last → pen_at b x y ≡ 0

-- the bitmap with these pens in the rows from the first to the last, and all else as it was
abbrev pub with_rows : ℕ → ℕ → (ℕ → ℕ → ℕ) → Bitmap → Bitmap
with_rows first last pens b =
    bitmap b.width b.height b.depth (λ x y. if nat_le first y && nat_le y last then pens x y else pen_at b x y)

-- the block lies in both bitmaps
pub record IsBlockFrom (k : Block) (to source : Bitmap) : Type 0 where
  pub right : k.x + k.width ≤ to.width
  pub lower : k.y + k.height ≤ to.height
  pub source_right : k.source_x + k.width ≤ source.width
  pub source_lower : k.source_y + k.height ≤ source.height
