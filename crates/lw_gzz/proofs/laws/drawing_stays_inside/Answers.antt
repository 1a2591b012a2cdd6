use Rattle.lw_gzz.proofs.Inside.{stays_inside}
use Rattle.lw_gzz.proofs.laws.drawing_stays_inside.Goals as goal

pub returns : goal.returns
returns c = stays_inside
