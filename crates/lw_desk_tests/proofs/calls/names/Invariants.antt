use Rattle.std.proofs.Common.{◌≡◌, length}
use Rattle.lw_desk_tests.proofs.calls.names.Given as goal

abbrev pub invariant-loop-place : goal.invariant-loop-place
invariant-loop-place l = length l.names.items ≡ l._place
