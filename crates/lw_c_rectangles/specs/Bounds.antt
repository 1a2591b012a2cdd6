-- Rectangles, as C hands them in.
use Rattle.std.specs.Prelude.{Bool, ◌&&◌, int_le}
use Rattle.lw_region.specs.Rectangle.{Rectangle}
use Rattle.lw_c_rectangles.specs.declared.bounds.Bounds.{Bounds}

-- the rectangle with these bounds, and the bounds of a rectangle
abbrev pub rectangle_of : Bounds → Rectangle
rectangle_of b = record { min_x = b.min_x; min_y = b.min_y; max_x = b.max_x; max_y = b.max_y }

abbrev pub bounds_of : Rectangle → Bounds
bounds_of r = record { min_x = r.min_x; min_y = r.min_y; max_x = r.max_x; max_y = r.max_y }

-- neither maximum is below its minimum
abbrev pub is_ordered : Bounds → Bool
is_ordered b = int_le b.min_x b.max_x && int_le b.min_y b.max_y
