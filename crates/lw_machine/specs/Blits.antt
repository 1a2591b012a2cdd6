-- Blits and the scrolling of a rectangle (the manual's Graphics Primitives chapter; that a pair is left out whose source
-- isn't kept, and how ScrollRaster treats damage, are this project's own).
use Rattle.std.specs.Prelude.{ℕ, Bool, true, false, ◌&&◌, nat_lt, if◌then◌else◌, ℤ, pos, ◌+ℤ◌, ◌-ℤ◌, unsigned_abs}
use Rattle.std.specs.Int.{bit_at}
use Rattle.lw_region.specs.Rectangle.{Rectangle, has_pixel}
use Rattle.lw_planes.specs.Grid.{grid, at}
use Rattle.lw_planes.specs.Bitmap.{Bitmap, pen_at}
use Rattle.lw_planes.specs.Minterm.{minterm_bit}
use Rattle.lw_calls.specs.declared.area.Area.{Area}
use Rattle.lw_machine.specs.Layer.{Layer}
use Rattle.lw_machine.specs.Kept.{in_bits, is_kept, holds_at, may_be_damaged}
use Rattle.lw_machine.specs.Paint.{is_drawn, draw_where, set_where}
use Rattle.lw_machine.specs.Shapes.{box_at}

-- the column of the source that goes to a column of the destination, and the row that goes to a row
abbrev pub source_column : Area → ℕ → ℤ
source_column a x = pos x +ℤ (a.sx -ℤ a.x)

abbrev pub source_row : Area → ℕ → ℤ
source_row a y = pos y +ℤ (a.sy -ℤ a.y)

-- the pen of the source that goes to a pixel of the destination
abbrev pub source_pen : Bitmap → Area → ℕ → ℕ → ℕ
source_pen source a x y = pen_at source (unsigned_abs (source_column a x)) (unsigned_abs (source_row a y))

-- the candidate of a blit in plane k of a pixel: the minterm's value of the source's bit and the old bit
abbrev pub blit_candidate : Bitmap → Area → Layer → ℕ → ℕ → ℕ → ℕ
blit_candidate source a l x y k = minterm_bit a.minterm (bit_at (source_pen source a x y) k) (bit_at (pen_at l.bits x y) k)

-- A blit: each drawable pixel of the destination's rectangle that has a source gets in each plane the minterm's value of the
-- source's bit and its own old bit, through the mask. Which pixels have a source, and the sources' pens, are those before the
-- call.
abbrev pub blitted : (ℤ → ℤ → Bool) → Bitmap → (ℕ → ℕ → Bool) → Area → Layer → Layer
blitted has_source source visible a l =
    draw_where visible
    (λ x y. has_pixel (box_at a.x a.y a.w a.h) (pos x) (pos y) && has_source (source_column a x) (source_row a y))
    (blit_candidate source a l)
    l

-- ClipBlit from a layer, which may be the destination itself: the sources are the layer's kept pixels.
abbrev pub clip_blit : (ℕ → ℕ → Bool) → Layer → (ℕ → ℕ → Bool) → Area → Layer → Layer
clip_blit source_visible source visible a l = blitted (holds_at (is_kept source_visible source)) source.bits visible a l

-- BltBitMapRastPort: the sources are all pixels of the bitmap. A bitmap of fewer planes has 0 in the further ones.
abbrev pub blt_bitmap_rast_port : Bitmap → (ℕ → ℕ → Bool) → Area → Layer → Layer
blt_bitmap_rast_port source visible a l =
    blitted (holds_at (λ x y. nat_lt x source.width && nat_lt y source.height)) source visible a l

-- the pixels of a ScrollRaster's rectangle, which is its shape
abbrev pub in_rectangle : Rectangle → ℕ → ℕ → Bool
in_rectangle rect x y = has_pixel rect (pos x) (pos y)

-- the pixel lies in the rectangle and in the layer's bits
abbrev pub in_scroll_area : Rectangle → Layer → ℕ → ℕ → Bool
in_scroll_area rect l x y = in_bits l x y && in_rectangle rect x y

-- What a ScrollRaster brings to a pixel: the pixel at this column and row, which is kept; a pixel of the rectangle that isn't
-- kept; or nothing, from outside the rectangle.
pub data Brought : Type 0 where
  BroughtPixel : ℕ → ℕ → Brought
  BroughtHidden : Brought
  BroughtNone : Brought

abbrev pub brought_if : Bool → Bool → ℕ → ℕ → Brought
brought_if true true x y = BroughtPixel x y
brought_if true false x y = BroughtHidden
brought_if false kept x y = BroughtNone

-- What a ScrollRaster by (dx, dy) brings to the layer pixel (x, y): what lies at (x + dx, y + dy).
abbrev pub brought_to : (ℕ → ℕ → Bool) → ℤ → ℤ → Rectangle → Layer → ℕ → ℕ → Brought
brought_to visible dx dy rect l x y =
    let column = pos x +ℤ dx in
    let row = pos y +ℤ dy in
    brought_if (holds_at (in_scroll_area rect l) column row) (holds_at (is_kept visible l) column row) (unsigned_abs column)
    (unsigned_abs row)

-- the pen that is brought: 0 from a pixel that isn't kept, and pen B from outside
abbrev pub brought_pen : Layer → Brought → ℕ
brought_pen l (BroughtPixel x y) = pen_at l.bits x y
brought_pen l BroughtHidden = 0
brought_pen l BroughtNone = l.raster.pen_b

-- Whether a pixel is marked, as damaged or hurt, after something was brought to it: as the pixel that was brought; yes, where
-- that one isn't kept; and as itself before, where nothing was brought.
abbrev pub brought_mark : (ℕ → ℕ → Bool) → ℕ → ℕ → Brought → Bool
brought_mark mark x y (BroughtPixel column row) = mark column row
brought_mark mark x y BroughtHidden = true
brought_mark mark x y BroughtNone = mark x y

-- the marks of a layer's pixels after a ScrollRaster, which changes the pixels that a drawing call of its rectangle changes
abbrev pub scrolled_mark : (ℕ → ℕ → Bool) → ℤ → ℤ → Rectangle → Layer → (ℕ → ℕ → Bool) → ℕ → ℕ → Bool
scrolled_mark visible dx dy rect l mark x y =
    if is_drawn visible (in_rectangle rect) l x y then brought_mark mark x y (brought_to visible dx dy rect l x y) else mark x y

-- ScrollRaster: each drawable pixel of the rectangle takes the pen that is brought to it, through the mask, and its damage,
-- which is dropped where damage may not lie; all of them from the layer before the call.
abbrev pub scroll_raster : (ℕ → ℕ → Bool) → ℤ → ℤ → Rectangle → Layer → Layer
scroll_raster visible dx dy rect l =
    record (set_where visible (in_rectangle rect) (λ x y. brought_pen l (brought_to visible dx dy rect l x y)) l) {
      damage =
          grid l.bits.width l.bits.height
          (λ x y. scrolled_mark visible dx dy rect l (at false l.damage) x y && may_be_damaged l x y);
    }
