use Rattle.lw_stack.proofs.ListedLaws.{shown_list_law}
use Rattle.lw_stack.proofs.laws.shown_list_law.Goals as goal

pub returns : goal.returns
returns c = shown_list_law
