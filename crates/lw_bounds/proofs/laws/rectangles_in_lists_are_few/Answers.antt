use Rattle.lw_bounds.proofs.Fronts.{lists_few}
use Rattle.lw_bounds.proofs.laws.rectangles_in_lists_are_few.Goals as goal

pub returns : goal.returns
returns c = lists_few
