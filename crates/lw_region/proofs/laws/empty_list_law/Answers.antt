use Rattle.lw_region.proofs.SetOps.{canonical_empty, set_of_nil, bands_of_nil}
use Rattle.lw_region.proofs.laws.empty_list_law.Goals as goal

pub returns : goal.returns
returns c = (canonical_empty, set_of_nil, bands_of_nil)
