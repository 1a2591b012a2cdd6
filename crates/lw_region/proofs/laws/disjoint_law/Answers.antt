use Rattle.lw_region.proofs.Disjoint.{canonical_disjoint}
use Rattle.lw_region.proofs.laws.disjoint_law.Goals as goal

pub returns : goal.returns
returns c = canonical_disjoint
