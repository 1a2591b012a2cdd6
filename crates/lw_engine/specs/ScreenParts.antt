-- What the screen of a desk shows in a rectangle of it.
use Rattle.std.specs.Prelude.{◌+◌}
use Rattle.lw_region.specs.Rectangle.{Rectangle, width, height}
use Rattle.lw_region.specs.Order.{natural}
use Rattle.lw_planes.specs.Bitmap.{Bitmap, bitmap, pen_at}
use Rattle.lw_machine.specs.Desk.{Desk}
use Rattle.lw_machine.specs.Screen.{screen}

-- The pens that the screen has in the rectangle, which lies on it.
abbrev pub screen_part : Desk → Rectangle → Bitmap
screen_part d r =
    bitmap (width r) (height r) d.sizes.depth (λ x y. pen_at (screen d) (natural r.min_x + x) (natural r.min_y + y))
