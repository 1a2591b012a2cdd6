use Rattle.std.specs.Prelude.{vec_len}
use Rattle.lw_locks.proofs.close.+put_cells.Given as goal

abbrev pub decreases-put_cells : goal.decreases-put_cells
decreases-put_cells g l = vec_len l.taken.now
