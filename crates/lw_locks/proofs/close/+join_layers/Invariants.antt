use Rattle.std.specs.Prelude.{vec_len}
use Rattle.lw_locks.proofs.close.+join_layers.Given as goal

abbrev pub decreases-join_layers : goal.decreases-join_layers
decreases-join_layers g l = vec_len l.layers.now
