use Rattle.lw_gzz.proofs.OnePair.{one_pair}
use Rattle.lw_gzz.proofs.laws.calls_stand_for_one_pair.Goals as goal

pub returns : goal.returns
returns c = one_pair
