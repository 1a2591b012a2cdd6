use Rattle.std.specs.Prelude.{vec_len}
use Rattle.lw_locks.proofs.desk.Desk.+put_passes.Given as goal

abbrev pub decreases-put_passes : goal.decreases-put_passes
decreases-put_passes g l = vec_len l.regs.now
