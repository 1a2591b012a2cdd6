use Rattle.lw_locks.proofs.Groups.{others_keep_away}
use Rattle.lw_locks.proofs.laws.others_keep_away.Goals as goal

pub returns : goal.returns
returns c = others_keep_away
