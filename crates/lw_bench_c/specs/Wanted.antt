-- For private contracts.
-- What the operations of the benchmarks make.
use Rattle.std.specs.Prelude.{List}
use Rattle.lw_region.specs.Rectangle.{Rectangle}
use Rattle.lw_region.specs.Pixels.{pixels_of, union, intersection, difference, symmetric_difference}
use Rattle.lw_region.specs.Bands.{bands}
use Rattle.lw_region.specs.Regions.{rectangle_set}
use Rattle.lw_bench_c.specs.declared.operation.Operation.{Operation}
use Rattle.lw_bench_c.specs.declared.operation.Operation.TheVariants.{Copied, Union, Intersection, SymmetricDifference}
use Rattle.lw_bench_c.specs.declared.operation.Operation.TheVariants.{Difference, RectangleDifference}

-- the rectangles of what is made of the first operand, with the second and the hole
abbrev pub wanted : Operation → List Rectangle → List Rectangle → Rectangle → List Rectangle
wanted Copied a b hole = a
wanted Union a b hole = bands (union (pixels_of a) (pixels_of b))
wanted Intersection a b hole = bands (intersection (pixels_of a) (pixels_of b))
wanted SymmetricDifference a b hole = bands (symmetric_difference (pixels_of a) (pixels_of b))
wanted Difference a b hole = bands (difference (pixels_of a) (pixels_of b))
wanted RectangleDifference a b hole = bands (difference (pixels_of a) (rectangle_set hole))
