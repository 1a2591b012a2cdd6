-- For private contracts.
-- How a part of the screen is made, layer by layer from the front.
use Rattle.std.specs.Prelude.{◌≡◌, ◌⊎◌, ℕ, ◌&&◌, false, if◌then◌else◌, List, [], ℤ, pos, ◌+ℤ◌, Option}
use Rattle.std.specs.List.{list_any}
use Rattle.lw_region.specs.Rectangle.{Rectangle, has_pixel, width, height}
use Rattle.lw_planes.specs.Bitmap.{Bitmap, bitmap}
use Rattle.lw_strips.specs.Strips.{StripView}
use Rattle.lw_machine.specs.Desk.{Desk, is_the}
use Rattle.lw_machine.specs.Screen.{bounds_have, top, pen_of_top}
use Rattle.lw_layer.specs.View.{CellView}
use Rattle.lw_engine.specs.Owners.{AreStripsOf}

-- the pen that the screen shows at a place where one of these layers is on top, and else pen 0
abbrev pub pen_among : Desk → List ℕ → ℤ → ℤ → ℕ
pen_among d slots x y = if list_any (is_the (top d x y)) slots then pen_of_top d (top d x y) x y else 0

-- the pens of these layers in a rectangle
abbrev pub part_among : Desk → Rectangle → List ℕ → Bitmap
part_among d r slots =
    bitmap (width r) (height r) d.sizes.depth (λ x y. pen_among d slots (r.min_x +ℤ pos x) (r.min_y +ℤ pos y))

-- no place of the rectangle is in the bounds
abbrev pub LiesOff : Rectangle → Option Rectangle → Type 0
LiesOff r bounds = (x y : ℤ) → (has_pixel r x y && bounds_have bounds x y) ≡ false

-- the strips of a slot, or none where its bounds have nothing of the rectangle
abbrev pub AreStripsNear : Rectangle → Option Rectangle → CellView → List StripView → Type 0
AreStripsNear r bounds c strips = AreStripsOf c strips ⊎ ((strips ≡ []) × LiesOff r bounds)
