use Rattle.lw_gzz.proofs.Closing.{closed_alike}
use Rattle.lw_gzz.proofs.laws.both_are_closed_alike.Goals as goal

pub returns : goal.returns
returns c = closed_alike
