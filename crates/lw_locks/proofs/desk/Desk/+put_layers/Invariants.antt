use Rattle.std.specs.Prelude.{vec_len}
use Rattle.lw_locks.proofs.desk.Desk.+put_layers.Given as goal

abbrev pub decreases-put_layers : goal.decreases-put_layers
decreases-put_layers g l = vec_len l.cells.now
