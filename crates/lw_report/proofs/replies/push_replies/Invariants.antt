use Rattle.std.proofs.Common.{◌≡◌, ◌++◌, []}
use Rattle.std.specs.List.{flat_map, range_with_len, slice_index_or}
use Rattle.lw_machine.specs.Report.{reply_lines}
use Rattle.lw_report.proofs.replies.push_replies.Given as goal

abbrev pub invariant-loop-task : goal.invariant-loop-task
invariant-loop-task l =
    l.out.items ≡ l.initial.out.items ++ flat_map (λ t. reply_lines l.names (slice_index_or l.tasks t []) (slice_index_or l.replies t [])) (range_with_len 0 l.task)
