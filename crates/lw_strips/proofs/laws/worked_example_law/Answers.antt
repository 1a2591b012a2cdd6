use Rattle.std.proofs.Common.{refl}
use Rattle.lw_region.specs.Rectangle.{within}
use Rattle.lw_region.specs.Bands.{covers}
use Rattle.lw_planes.specs.Grid.{grid, at}
use Rattle.lw_strips.specs.Strips.{pen_in}
use Rattle.lw_strips.proofs.laws.worked_example_law.Goals as goal

pub returns : goal.returns
unfolding within covers grid at pen_in
returns c = (refl, refl, refl, refl, refl, refl)
