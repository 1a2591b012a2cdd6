use Rattle.lw_region.proofs.SetOps.{canonical_is_banded}
use Rattle.lw_region.proofs.laws.banded_law.Goals as goal

pub returns : goal.returns
returns c = canonical_is_banded
