use Rattle.std.proofs.Common.{subst}
use Rattle.lw_region.specs.Rectangle.{IsOrdered}
use Rattle.lw_region.proofs.SetOps.{canonical_one}
use Rattle.lw_region.proofs.rect.Rect.as_list.Goals as goal

pub returns-clause-canonical : goal.returns-clause-canonical
returns-clause-canonical c =
    rw c.from_ref.ensures.value (canonical_one c.args.self.now (subst IsOrdered c.self.view_is c.self.invariant))
