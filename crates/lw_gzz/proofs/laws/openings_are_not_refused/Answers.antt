use Rattle.lw_gzz.proofs.Fresh.{not_refused}
use Rattle.lw_gzz.proofs.laws.openings_are_not_refused.Goals as goal

pub returns : goal.returns
returns c = not_refused
