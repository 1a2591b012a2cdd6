use Rattle.lw_bounds.proofs.CutCorners.{few_under_cuts}
use Rattle.lw_bounds.proofs.laws.rectangles_under_cuts_are_few.Goals as goal

pub returns : goal.returns
returns c = few_under_cuts
