use Rattle.std.proofs.Common.{◌≡◌, ◌++◌, true, drop}
use Rattle.lw_canonical.specs.Canonical.{lines_from}
use Rattle.lw_calls.specs.Plan.{task_calls, task_groups, groups_fit}
use Rattle.lw_print.specs.Behind.{text_of}
use Rattle.lw_print.proofs.Grouped.{Reaches}
use Rattle.lw_print.proofs.tasks.push_calls.Given as goal

abbrev pub invariant-loop-number : goal.invariant-loop-number
invariant-loop-number l = record {
  fit : groups_fit (task_calls l.plan l.task) l.left ≡ true;
  reach : Reaches l.number l.left;
  written : l.out.items ++ text_of (lines_from l.plan (task_calls l.plan l.task) l.left l.number (drop l.number (task_calls l.plan l.task))) ≡ l.initial.out.items ++ text_of (lines_from l.plan (task_calls l.plan l.task) (task_groups l.plan l.task) 0 (task_calls l.plan l.task));
}
