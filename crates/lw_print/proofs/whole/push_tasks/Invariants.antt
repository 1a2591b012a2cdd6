use Rattle.std.proofs.Common.{◌≡◌, ◌++◌}
use Rattle.std.specs.List.{flat_map, range_with_len}
use Rattle.lw_canonical.specs.Canonical.{lines_of_task}
use Rattle.lw_print.specs.Behind.{text_of}
use Rattle.lw_print.proofs.whole.push_tasks.Given as goal

abbrev pub invariant-loop-task : goal.invariant-loop-task
invariant-loop-task l =
    l.out.items ≡ l.initial.out.items ++ flat_map (λ t. text_of (lines_of_task l.plan t)) (range_with_len 0 l.task)
