use Rattle.lw_region.proofs.Moving.{moved_lists}
use Rattle.lw_region.proofs.laws.moved_list_law.Goals as goal

pub returns : goal.returns
returns c = moved_lists
