-- For private contracts.
-- What the operations make of two sets of pixels.
use Rattle.std.specs.Prelude.{List}
use Rattle.lw_region.specs.Pixels.{Pixel, union, intersection, difference, symmetric_difference}
use Rattle.lw_c_arrays.specs.declared.operation.Operation.{Operation}
use Rattle.lw_c_arrays.specs.declared.operation.Operation.TheVariants.{Union, Intersection, SymmetricDifference, Difference}

abbrev pub combined : Operation → List Pixel → List Pixel → List Pixel
combined Union a b = union a b
combined Intersection a b = intersection a b
combined SymmetricDifference a b = symmetric_difference a b
combined Difference a b = difference a b
