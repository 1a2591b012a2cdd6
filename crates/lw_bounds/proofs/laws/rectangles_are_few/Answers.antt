use Rattle.lw_bounds.proofs.OnDesks.{rectangles_few}
use Rattle.lw_bounds.proofs.laws.rectangles_are_few.Goals as goal

pub returns : goal.returns
returns c = rectangles_few
