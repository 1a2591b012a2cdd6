use Rattle.lw_region.proofs.SetOps.{canonical_nil}
use Rattle.lw_region.proofs.region.Region.new.Goals as goal

pub invariant_of-result : goal.invariant_of-result
invariant_of-result c = rw c.new.ensures.items canonical_nil
