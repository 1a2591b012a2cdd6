use Rattle.std.proofs.Common.{◌≡◌, replicate}
use Rattle.lw_calls.specs.Code.OrderState.{no_progress}
use Rattle.lw_calls.proofs.orders.start_all.Given as goal

abbrev pub invariant-loop-task : goal.invariant-loop-task
invariant-loop-task l = l.states.items ≡ replicate l._task no_progress
