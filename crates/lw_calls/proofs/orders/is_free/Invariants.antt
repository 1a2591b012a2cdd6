use Rattle.std.proofs.Common.{◌≡◌, true, ◌==◌, ◌||◌, not}
use Rattle.std.specs.List.{list_all, range_with_len, slice_index_or}
use Rattle.lw_calls.specs.Plan.{task_groups}
use Rattle.lw_calls.specs.Code.OrderState.{no_progress, is_held}
use Rattle.lw_calls.proofs.orders.is_free.Given as goal

abbrev pub invariant-loop-other : goal.invariant-loop-other
invariant-loop-other l =
    list_all (λ t. (t == l.task) || not (is_held (task_groups l.plan t) l.touch (slice_index_or l.states t no_progress)))
    (range_with_len 0 l.other) ≡ true
