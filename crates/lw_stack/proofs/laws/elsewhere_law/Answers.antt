use Rattle.lw_stack.proofs.FirstLaws.{top_elsewhere}
use Rattle.lw_stack.proofs.laws.elsewhere_law.Goals as goal

pub returns : goal.returns
returns c = top_elsewhere
