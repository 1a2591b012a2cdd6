use Rattle.lw_gzz.proofs.Groups.{groups_keep}
use Rattle.lw_gzz.proofs.laws.groups_keep_pairs_together.Goals as goal

pub returns : goal.returns
returns c = groups_keep
