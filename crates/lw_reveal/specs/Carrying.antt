-- For private contracts.
-- Pens that are carried into new strips and buffers.
use Rattle.std.specs.Prelude.{◌≡◌, ℕ, ◌+◌, ◌<◌, ◌≤◌, true, false, Bool, List, take, length, Some, None, ℤ, pos, ◌+ℤ◌, ◌≤ℤ◌}
use Rattle.std.specs.List.{All, slice_index_or}
use Rattle.lw_region.specs.Rectangle.{Rectangle, width, height}
use Rattle.lw_planes.specs.Bitmap.{Bitmap, pen_at}
use Rattle.lw_planes.specs.Sizes.{AreSizes}
use Rattle.lw_layer.specs.View.{LiveView, keeps, kept_pen}
use Rattle.lw_layer.specs.Drafts.{no_bitmap}
use Rattle.lw_reveal.specs.declared.carrying.Place.{Place}
use Rattle.lw_strips.specs.Strips.{StripView, held_by, rects_of}
use Rattle.lw_reveal.specs.Changes.{carried, held_in}
use Rattle.lw_planes.specs.Spares.{HasSizes}

-- the layer keeps all pixels of its first w columns and h rows
abbrev pub KeepsAll : LiveView → ℕ → ℕ → Type 0
KeepsAll c w h = (u v : ℕ) → u < w → v < h → keeps c u v ≡ true

-- The place tells how far the layer's bits are scrolled, and of how many columns and rows the layer keeps all pixels.
pub record IsPlace (c : LiveView) (p : Place) : Type 0 where
  pub scroll_x : p.scroll_x ≡ pos c.layer.scroll_x
  pub scroll_y : p.scroll_y ≡ pos c.layer.scroll_y
  pub wide : c.layer.scroll_x ≤ 2048
  pub high : c.layer.scroll_y ≤ 2048
  pub kept : KeepsAll c p.kept_width p.kept_height

-- so many places from this one on lie within the first ones
pub record LiesWithin (first : ℤ) (count all : ℕ) : Type 0 where
  pub from : pos 0 ≤ℤ first
  pub upto : (first +ℤ pos count) ≤ℤ pos all

-- A bitmap of w columns and h rows for the layer's pixels from (x, y) on: where the layer keeps none it has pen 0.
pub record IsForPens (c : LiveView) (x y : ℤ) (w h : ℕ) (b : Bitmap) : Type 0 where
  pub sizes : HasSizes w h c.layer.bits.depth b
  pub rest : (i j : ℕ) → i < w → j < h → kept_pen c (x +ℤ pos i) (y +ℤ pos j) ≡ None → pen_at b i j ≡ 0

-- each rectangle has sizes for planes
abbrev pub HaveSizes : ℕ → List Rectangle → Type 0
HaveSizes depth rects = All (λ (r : Rectangle). AreSizes (width r) (height r) depth) rects

-- each rectangle to which no buffer is given has a new one
pub record AreNew (c : LiveView) (bounds : Rectangle) (rects : List Rectangle) (given : List Bool) (buffers : List Bitmap) :
    Type 0 where
  pub many : length buffers ≡ length rects
  pub each : (i : ℕ) → i < length rects → slice_index_or given i false ≡ false
      → slice_index_or buffers i no_bitmap ≡ carried c bounds (slice_index_or rects i bounds)

-- the strip of a rectangle, which has the pens that the layer keeps there, or none where it is to be given some
pub record IsNewStrip (c : LiveView) (bounds r : Rectangle) (given : Bool) (s : StripView) : Type 0 where
  pub rect : s.rect ≡ r
  pub pens : given ≡ false → held_by s ≡ Some (carried c bounds r)

-- the same of all rectangles
pub record AreNewStrips
    (c : LiveView) (bounds : Rectangle) (rects : List Rectangle) (given : List Bool) (strips : List StripView) :
    Type 0 where
  pub shown : rects_of strips ≡ rects
  pub each : (i : ℕ) (s : StripView) → i < length rects → slice_index_or given i false ≡ false
      → held_by (slice_index_or strips i s) ≡ Some (carried c bounds (slice_index_or rects i bounds))

-- the same of rectangles in two parts, of which the first has so many, with strips, and the second with buffers
pub record AreBothNew (c : LiveView) (bounds : Rectangle) (rects : List Rectangle) (given : List Bool) (shown : ℕ)
    (strips : List StripView) (covered : List Bitmap) : Type 0 where
  pub shown_rects : rects_of strips ≡ take shown rects
  pub many : length covered + shown ≡ length rects
  pub each : (i : ℕ) → i < length rects → slice_index_or given i false ≡ false
      → slice_index_or (held_in strips covered) i None ≡ Some (carried c bounds (slice_index_or rects i bounds))
