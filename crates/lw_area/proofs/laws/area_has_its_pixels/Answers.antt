use Rattle.lw_area.proofs.Closed.{area_pixels}
use Rattle.lw_area.proofs.laws.area_has_its_pixels.Goals as goal

pub returns : goal.returns
returns c = area_pixels
