-- Region registers: eight sets of pixels for each task (Layers Library: regions; the registers and their limit are
-- this project's own).
use Rattle.std.specs.Prelude.{ℕ, Bool, not, nat_le, List, length}
use Rattle.lw_region.specs.Rectangle.{Rectangle}
use Rattle.lw_region.specs.Pixels.{Pixel, union, intersection, difference, symmetric_difference}
use Rattle.lw_region.specs.Bands.{bands}
use Rattle.lw_region.specs.Regions.{rectangle_set}
use Rattle.lw_calls.specs.declared.operation.RectOp.{RectOp}
use Rattle.lw_calls.specs.declared.operation.RectOp.TheVariants.{Or as OrRect, And as AndRect, Xor as XorRect, Clear as ClearRect}
use Rattle.lw_calls.specs.declared.operation.PairOp.{PairOp}
use Rattle.lw_calls.specs.declared.operation.PairOp.TheVariants.{Or as OrPair, And as AndPair, Xor as XorPair}

-- what a region call makes of a register's set and a rectangle
abbrev pub rect_result : RectOp → List Pixel → Rectangle → List Pixel
rect_result OrRect set r = union set (rectangle_set r)
rect_result AndRect set r = intersection set (rectangle_set r)
rect_result XorRect set r = symmetric_difference set (rectangle_set r)
rect_result ClearRect set r = difference set (rectangle_set r)

-- what a region call makes of the second register's set and the first's
abbrev pub pair_result : PairOp → List Pixel → List Pixel → List Pixel
pair_result OrPair source into = union into source
pair_result AndPair source into = intersection into source
pair_result XorPair source into = symmetric_difference into source

-- how many rectangles the canonical list of a register may have
abbrev pub rect_limit : ℕ
rect_limit = 128

-- the canonical list of the set has too many rectangles for a register
unfoldable pub has_too_many : List Pixel → Bool
has_too_many set = not (nat_le (length (bands set)) rect_limit)
