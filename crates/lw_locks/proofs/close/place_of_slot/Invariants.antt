use Rattle.std.proofs.Common.{◌≢◌, ℕ, ◌<◌, get_or}
use Rattle.lw_locks.proofs.close.place_of_slot.Given as goal

abbrev pub invariant-loop-place : goal.invariant-loop-place
invariant-loop-place g l = (k : ℕ) (d : ℕ × g.row.C.Denot) → k < l.place → (get_or l.taken k d).0 ≢ l.slot
