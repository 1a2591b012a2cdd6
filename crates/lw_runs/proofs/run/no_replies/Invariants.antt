use Rattle.std.proofs.Common.{◌≡◌, [], replicate}
use Rattle.lw_runs.proofs.run.no_replies.Given as goal

abbrev pub invariant-loop-task : goal.invariant-loop-task
invariant-loop-task l = l.told.items ≡ replicate l._task []
