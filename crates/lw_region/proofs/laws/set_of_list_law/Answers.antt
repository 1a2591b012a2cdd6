use Rattle.lw_region.proofs.Reading.{contains_pixels_of, ordered_pixels}
use Rattle.lw_region.proofs.laws.set_of_list_law.Goals as goal

pub returns : goal.returns
returns c = (contains_pixels_of, ordered_pixels)
