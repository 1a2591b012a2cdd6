use Rattle.std.proofs.Common.{◌≡◌, true, ◌==◌, length}
use Rattle.std.specs.List.{list_all, range_with_len, slice_index_or}
use Rattle.lw_calls.specs.Plan.{task_calls}
use Rattle.lw_calls.specs.Code.OrderState.{no_progress}
use Rattle.lw_calls.proofs.orders.all_made.Given as goal

abbrev pub invariant-loop-task : goal.invariant-loop-task
invariant-loop-task l =
    list_all (λ t. (slice_index_or l.states t no_progress).made == length (task_calls l.plan t)) (range_with_len 0 l.task) ≡ true
