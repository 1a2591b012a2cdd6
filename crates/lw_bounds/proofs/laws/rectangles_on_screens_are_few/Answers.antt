use Rattle.lw_bounds.proofs.UnderCovers.{few_on_screens}
use Rattle.lw_bounds.proofs.laws.rectangles_on_screens_are_few.Goals as goal

pub returns : goal.returns
returns c = few_on_screens
