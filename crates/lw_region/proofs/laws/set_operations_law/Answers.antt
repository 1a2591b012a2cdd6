use Rattle.lw_region.proofs.Reading.{contains_union, contains_intersection, contains_difference, contains_symmetric, ordered_union, ordered_intersection, ordered_difference, ordered_symmetric}
use Rattle.lw_region.proofs.laws.set_operations_law.Goals as goal

pub returns : goal.returns
returns c = (
  (contains_union, contains_intersection, contains_difference, contains_symmetric),
  (ordered_union, ordered_intersection, ordered_difference, ordered_symmetric),
)
