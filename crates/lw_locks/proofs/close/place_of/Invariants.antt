use Rattle.std.proofs.Common.{◌≢◌, ℕ, ◌<◌, get_or}
use Rattle.lw_locks.specs.Seen.{SeenPass}
use Rattle.lw_locks.proofs.close.place_of.Given as goal

abbrev pub invariant-loop-place : goal.invariant-loop-place
invariant-loop-place g l = (k : ℕ) (d : SeenPass) → k < l.place → (get_or l.passes k d).task ≢ l.task
