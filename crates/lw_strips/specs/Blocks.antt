-- Blocks of pixels that are copied from one bitmap into another (Graphics Primitives: `BltBitMap` with a plain copy).
use Rattle.std.specs.Prelude.{◌≡◌, ℕ, ◌+◌, ◌-◌, ◌≤◌, Bool, ◌&&◌, if◌then◌else◌, ℤ, pos, ◌+ℤ◌, ◌-ℤ◌}
use Rattle.lw_region.specs.Rectangle.{Rectangle, has_pixel}
use Rattle.lw_region.specs.Order.{natural}
use Rattle.lw_planes.specs.Bitmap.{Bitmap, bitmap, pen_at}
use Rattle.lw_kernels.specs.Kernel.{is_named}
use Rattle.lw_strips.specs.declared.block.Block.{Block}

-- the block lies in both bitmaps, which have as many planes
pub record IsBlockOf (k : Block) (to source : Bitmap) : Type 0 where
  pub right : k.x + k.width ≤ to.width
  pub lower : k.y + k.height ≤ to.height
  pub source_right : k.source_x + k.width ≤ source.width
  pub source_lower : k.source_y + k.height ≤ source.height
  pub planes : source.depth ≡ to.depth

-- the block lies in the bitmap that is written to
pub record IsBlockIn (k : Block) (to : Bitmap) : Type 0 where
  pub right : k.x + k.width ≤ to.width
  pub lower : k.y + k.height ≤ to.height

-- the pixel (x, y) is in the block, where that is copied to
abbrev pub in_block : Block → ℕ → ℕ → Bool
in_block k x y = is_named k.x k.width x && is_named k.y k.height y

-- the pen of the source that belongs to the pixel (x, y)
abbrev pub block_pen : Block → Bitmap → ℕ → ℕ → ℕ
block_pen k source x y = pen_at source (k.source_x + (x - k.x)) (k.source_y + (y - k.y))

-- the bitmap with the source's pens in the block, and all else as it was
abbrev pub with_block : Block → Bitmap → Bitmap → Bitmap
with_block k source b = bitmap b.width b.height b.depth (λ x y. if in_block k x y then block_pen k source x y else pen_at b x y)

-- the bitmap with pen 0 in the block, and all else as it was
abbrev pub without_block : Block → Bitmap → Bitmap
without_block k b = bitmap b.width b.height b.depth (λ x y. if in_block k x y then 0 else pen_at b x y)

-- so many columns and rows from the pixel (x, y) on
abbrev pub area_at : ℤ → ℤ → ℕ → ℕ → Rectangle
area_at x y w h = record { min_x = x; min_y = y; max_x = (x +ℤ pos w) -ℤ pos 1; max_y = (y +ℤ pos h) -ℤ pos 1 }

-- the bitmap with another one laid on it, whose pixel (0, 0) lies on the pixel (x, y), and all else as it was
abbrev pub with_bitmap : ℤ → ℤ → Bitmap → Bitmap → Bitmap
with_bitmap x y source b =
    bitmap b.width b.height b.depth
    (λ i j. if has_pixel (area_at x y source.width source.height) (pos i) (pos j)
    then pen_at source (natural (pos i -ℤ x)) (natural (pos j -ℤ y))
    else pen_at b i j)

-- the bitmap with pen 0 where the area is, and all else as it was
abbrev pub without_area : Rectangle → Bitmap → Bitmap
without_area r b = bitmap b.width b.height b.depth (λ i j. if has_pixel r (pos i) (pos j) then 0 else pen_at b i j)
