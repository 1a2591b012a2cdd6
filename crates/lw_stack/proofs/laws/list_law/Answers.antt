use Rattle.lw_stack.proofs.ListLaws.{list_law}
use Rattle.lw_stack.proofs.laws.list_law.Goals as goal

pub returns : goal.returns
returns c = list_law
