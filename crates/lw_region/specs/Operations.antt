-- For private contracts.
-- The set operations by name: on sets, and as rules on whether one pixel is in either set.
use Rattle.std.specs.Prelude.{Bool, ◌&&◌, ◌||◌, not, List}
use Rattle.lw_region.specs.declared.operation.Operation.{Operation}
use Rattle.lw_region.specs.declared.operation.Operation.TheVariants.{Union, Intersection, SymmetricDifference, Difference}
use Rattle.lw_region.specs.Pixels.{Pixel, union, intersection, difference, symmetric_difference}

-- the pixel is in the result, where it is told whether it is in the first set and in the second
abbrev pub holds : Operation → Bool → Bool → Bool
holds Union p q = p || q
holds Intersection p q = p && q
holds SymmetricDifference p q = (p && not q) || (q && not p)
holds Difference p q = p && not q

-- the set that the operation makes of two sets
abbrev pub combined : Operation → List Pixel → List Pixel → List Pixel
combined Union s t = union s t
combined Intersection s t = intersection s t
combined SymmetricDifference s t = symmetric_difference s t
combined Difference s t = difference s t
