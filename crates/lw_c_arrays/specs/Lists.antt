-- Arrays of rectangles, as C hands them in.
use Rattle.std.specs.Prelude.{Bool, List, map}
use Rattle.std.specs.List.{list_all}
use Rattle.std.specs.Int.{int_max, int_min}
use Rattle.lw_region.specs.Rectangle.{Rectangle}
use Rattle.lw_region.specs.Pixels.{Pixel, pixels_of}
use Rattle.lw_c_rectangles.specs.declared.bounds.Bounds.{Bounds}
use Rattle.lw_c_rectangles.specs.Bounds.{rectangle_of, is_ordered}

-- each rectangle has ordered bounds
abbrev pub are_ordered : List Bounds → Bool
are_ordered list = list_all is_ordered list

-- the rectangles of an array, and the set of their pixels
abbrev pub rectangles_of : List Bounds → List Rectangle
rectangles_of list = map rectangle_of list

abbrev pub set_of : List Bounds → List Pixel
set_of list = pixels_of (rectangles_of list)

-- For private contracts: the least bounds in which both are.
abbrev pub joined : Bounds → Bounds → Bounds
joined a b = record {
  min_x = int_min a.min_x b.min_x;
  min_y = int_min a.min_y b.min_y;
  max_x = int_max a.max_x b.max_x;
  max_y = int_max a.max_y b.max_y;
}
