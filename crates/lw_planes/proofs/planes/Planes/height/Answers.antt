use Rattle.std.proofs.Common.{subst}
use Rattle.lw_planes.specs.Sizes.{IsPlanes}
use Rattle.lw_planes.proofs.StorageLaws.{IsPlanes_stored}
use Rattle.lw_planes.proofs.planes.Planes.height.Goals as goal

pub returns-clause-planes : goal.returns-clause-planes
returns-clause-planes c = subst (λ b. IsPlanes b) c.self.view_is (IsPlanes_stored _ _ _ _ c.self.invariant)
