-- Pixels that are kept in a list of rectangles with a bitmap each (Layers Library: clip rectangles; the form is this project's
-- own). Which places have a pixel is `covers` of the rectangles.
use Rattle.std.specs.Prelude.{◌≡◌, ℕ, ◌<◌, if◌then◌else◌, List, [], ◌∷◌, length, slice_index_or, ℤ, pos, negsuc, ◌+ℤ◌, ◌-ℤ◌, ◌≤ℤ◌}
use Rattle.lw_region.specs.Bands.{covers}
use Rattle.lw_region.specs.Rectangle.{Rectangle, has_pixel}
use Rattle.lw_region.specs.Order.{natural}
use Rattle.lw_planes.specs.Bitmap.{Bitmap, pen_at}
use Rattle.lw_strips.specs.Laying.{laid}

-- the bitmap has the rectangle's columns and rows
pub record IsBufferOf (r : Rectangle) (b : Bitmap) : Type 0 where
  pub columns : r.min_x +ℤ pos b.width ≡ r.max_x +ℤ pos 1
  pub rows : r.min_y +ℤ pos b.height ≡ r.max_y +ℤ pos 1

-- as many bitmaps as rectangles, each of its rectangle's size
pub record AreBuffers (rects : List Rectangle) (buffers : List Bitmap) : Type 0 where
  pub as_many : length buffers ≡ length rects
  pub sizes : (k : ℕ) (r : Rectangle) (b : Bitmap) → k < length rects
      → IsBufferOf (slice_index_or rects k r) (slice_index_or buffers k b)

-- the pen of a rectangle's bitmap for the place at column x and row y: the bitmap begins at the rectangle's corner
abbrev pub pen_from : Rectangle → Bitmap → ℤ → ℤ → ℕ
pen_from r b x y = pen_at b (natural (x -ℤ r.min_x)) (natural (y -ℤ r.min_y))

-- the pen at column x and row y: that of the first rectangle of the list that has the place, and 0 where none has it
unfoldable pub pen_in : List Rectangle → List Bitmap → ℤ → ℤ → ℕ
pen_in [] bs x y = 0
pen_in (r ∷ rs) [] x y = 0
pen_in (r ∷ rs) (b ∷ bs) x y = if has_pixel r x y then pen_from r b x y else pen_in rs bs x y

-- the bitmap whose pixel (0, 0) is the place (left, top), with the pens of the rectangles' bitmaps where some rectangle is
abbrev pub with_buffers : List Rectangle → List Bitmap → ℤ → ℤ → Bitmap → Bitmap
with_buffers rects buffers left top b = laid (λ x y. covers rects x y) (λ x y. pen_in rects buffers x y) left top b

-- a place that is no more than 10^12 from 0
abbrev pub IsNear : ℤ → Type 0
IsNear z = (negsuc 999999999999 ≤ℤ z) × (z ≤ℤ pos 1000000000000)
