use Rattle.lw_gzz.proofs.Pairs.{others_keep}
use Rattle.lw_gzz.proofs.laws.other_calls_keep_pairs_together.Goals as goal

pub returns : goal.returns
returns c = others_keep
