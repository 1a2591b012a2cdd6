use Rattle.lw_arrange.proofs.FewRectangles.{arranged_few}
use Rattle.lw_arrange.proofs.laws.arranged_slots_have_few_rectangles.Goals as goal

pub returns : goal.returns
returns c = arranged_few
