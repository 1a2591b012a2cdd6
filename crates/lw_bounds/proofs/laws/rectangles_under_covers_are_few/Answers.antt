use Rattle.lw_bounds.proofs.UnderCovers.{few_under_covers}
use Rattle.lw_bounds.proofs.laws.rectangles_under_covers_are_few.Goals as goal

pub returns : goal.returns
returns c = few_under_covers
