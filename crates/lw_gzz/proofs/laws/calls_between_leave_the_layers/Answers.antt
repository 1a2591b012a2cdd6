use Rattle.lw_gzz.proofs.Between.{between}
use Rattle.lw_gzz.proofs.laws.calls_between_leave_the_layers.Goals as goal

pub returns : goal.returns
returns c = between
