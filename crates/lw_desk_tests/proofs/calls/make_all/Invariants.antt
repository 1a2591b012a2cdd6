use Rattle.std.proofs.Common.{◌≡◌}
use Rattle.lw_desk_tests.proofs.calls.make_all.Given as goal

abbrev pub invariant-loop-call : goal.invariant-loop-call
invariant-loop-call g l = l.pass.task ≡ l.initial.pass.task
