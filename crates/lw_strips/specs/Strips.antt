-- Strips: rectangles of the screen with their pens (Layers Library: clip rectangles; that what is shown is kept as strips is
-- this project's own).
use Rattle.std.specs.Prelude.{◌≡◌, ℕ, Bool, true, false, if◌then◌else◌, List, [], ◌∷◌, map, Option, Some, None, ℤ, ◌-ℤ◌}
use Rattle.lw_region.specs.Rectangle.{Rectangle, IsOrdered, has_pixel, width, height}
use Rattle.lw_region.specs.Order.{natural}
use Rattle.lw_planes.specs.Bitmap.{Bitmap, bitmap, pen_at}
use Rattle.lw_planes.specs.Sizes.{IsPlanes}

-- A strip: its rectangle, and the bitmap of its pens, whose pixel (0, 0) is the rectangle's top left corner. Only a solid one
-- has memory for its pens.
pub record StripView : Type 0 where
  pub rect : Rectangle
  pub planes : Bitmap
  pub solid : Bool

-- the bitmap has the rectangle's columns and rows
pub record IsSizeOf (r : Rectangle) (b : Bitmap) : Type 0 where
  pub columns : b.width ≡ width r
  pub rows : b.height ≡ height r

-- pen 0 all over a rectangle
abbrev pub blank_planes : Rectangle → ℕ → Bitmap
blank_planes r depth = bitmap (width r) (height r) depth (λ _ _. 0)

-- what holds of each strip: its bitmap is of its rectangle's size, and has pen 0 all over where it has no memory
pub record IsStrip (s : StripView) : Type 0 where
  pub ordered : IsOrdered s.rect
  pub size : IsSizeOf s.rect s.planes
  pub sound : IsPlanes s.planes
  pub blank : s.solid ≡ false → s.planes ≡ blank_planes s.rect s.planes.depth

-- the strip of a rectangle with a bitmap, and without one
abbrev pub strip_of : Rectangle → ℕ → Option Bitmap → StripView
strip_of r depth None = record { rect = r; planes = blank_planes r depth; solid = false }
strip_of r depth (Some b) = record { rect = r; planes = b; solid = true }

-- the strip with the pens of this bitmap
abbrev pub filled : Bitmap → StripView → StripView
filled b s = record { rect = s.rect; planes = b; solid = true }

-- what a strip holds: the bitmap of its pens, where it has memory for them
abbrev pub held_by : StripView → Option Bitmap
held_by s = if s.solid then Some s.planes else None

-- the strip's pen for the place at column x and row y of the screen
abbrev pub strip_pen : StripView → ℤ → ℤ → ℕ
strip_pen s x y = pen_at s.planes (natural (x -ℤ s.rect.min_x)) (natural (y -ℤ s.rect.min_y))

-- the rectangles of these strips
abbrev pub rects_of : List StripView → List Rectangle
rects_of strips = map (λ s. s.rect) strips

-- the bitmaps of their pens
abbrev pub planes_of : List StripView → List Bitmap
planes_of strips = map (λ s. s.planes) strips

-- the pen at column x and row y of the screen: that of the first strip of the list that has the place, and 0 where none has it
unfoldable pub pen_in : List StripView → ℤ → ℤ → ℕ
pen_in [] x y = 0
pen_in (s ∷ rest) x y = if has_pixel s.rect x y then strip_pen s x y else pen_in rest x y
