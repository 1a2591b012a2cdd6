use Rattle.std.proofs.Common.{refl}
use Rattle.lw_region.specs.Pixels.{contains_pixel, pixels_of, union, intersection, difference, symmetric_difference}
use Rattle.lw_region.specs.Bands.{bands}
use Rattle.lw_region.proofs.laws.worked_example_law.Goals as goal

pub returns : goal.returns
unfolding contains_pixel pixels_of union intersection difference symmetric_difference bands
returns c = (refl, refl)
