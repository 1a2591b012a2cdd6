use Rattle.std.specs.Prelude.{vec_len}
use Rattle.lw_locks.proofs.close.+join_passes.Given as goal

abbrev pub decreases-join_passes : goal.decreases-join_passes
decreases-join_passes g l = vec_len l.passes.now
