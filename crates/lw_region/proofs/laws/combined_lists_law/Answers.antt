use Rattle.lw_region.proofs.SetOps.{combined_lists}
use Rattle.lw_region.proofs.laws.combined_lists_law.Goals as goal

pub returns : goal.returns
returns c = combined_lists
