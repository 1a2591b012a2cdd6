use Rattle.lw_gzz.proofs.OnePair.{words_part}
use Rattle.lw_gzz.proofs.laws.words_may_part_their_pair.Goals as goal

pub returns : goal.returns
returns c = words_part
