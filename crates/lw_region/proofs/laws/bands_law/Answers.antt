use Rattle.lw_region.proofs.Canonical.{covers_bands}
use Rattle.lw_region.proofs.SetOps.{canonical_bands, set_of_bands}
use Rattle.lw_region.proofs.laws.bands_law.Goals as goal

pub returns : goal.returns
returns c = (covers_bands, canonical_bands, set_of_bands)
