use Rattle.lw_region.proofs.Canonical.{one_canonical}
use Rattle.lw_region.proofs.SetOps.{one_canonical_set}
use Rattle.lw_region.proofs.laws.one_list_law.Goals as goal

pub returns : goal.returns
returns c = (one_canonical, one_canonical_set)
