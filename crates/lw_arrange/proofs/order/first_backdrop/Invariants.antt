use Rattle.std.proofs.Common.{◌≡◌, ℕ, ◌<◌, false, get_or}
use Rattle.lw_arrange.specs.Planning.{is_backdrop_at}
use Rattle.lw_arrange.proofs.order.first_backdrop.Given as goal

abbrev pub invariant-loop-place : goal.invariant-loop-place
invariant-loop-place l = (k : ℕ) → k < l.place → is_backdrop_at l.looks (get_or l.order k 0) ≡ false
