use Rattle.lw_region.proofs.SetOps.{canonical_nil}
use Rattle.lw_region.proofs.region.Region.clear.Goals as goal

pub invariant_of-self : goal.invariant_of-self
invariant_of-self c = rw c.clear.ensures.items canonical_nil
