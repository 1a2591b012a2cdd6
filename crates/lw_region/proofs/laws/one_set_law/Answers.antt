use Rattle.lw_region.proofs.Reading.{one_set}
use Rattle.lw_region.proofs.laws.one_set_law.Goals as goal

pub returns : goal.returns
returns c = one_set
