use Rattle.lw_gzz.proofs.Opening.{opened}
use Rattle.lw_gzz.proofs.laws.pairs_are_opened.Goals as goal

pub returns : goal.returns
returns c = opened
