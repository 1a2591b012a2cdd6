use Rattle.lw_gzz.proofs.Runs.{together}
use Rattle.lw_gzz.proofs.laws.pairs_stay_together.Goals as goal

pub returns : goal.returns
returns c = together
