use Rattle.lw_gzz.proofs.FilledPair.{is_apart}
use Rattle.lw_gzz.proofs.examples.filled_pair_is_apart.Goals as goal

pub returns : goal.returns
returns c = is_apart
