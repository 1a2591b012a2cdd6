use Rattle.lw_engine.proofs.FewRectangles.{cells_few}
use Rattle.lw_engine.proofs.laws.cells_have_few_rectangles.Goals as goal

pub returns : goal.returns
returns c = cells_few
