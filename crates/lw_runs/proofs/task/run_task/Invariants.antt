use Rattle.std.proofs.Common.{◌≡◌, length, drop}
use Rattle.lw_calls.specs.Plan.{task_calls, task_groups}
use Rattle.lw_runs.specs.Made.{HasBegun, IsAhead}
use Rattle.lw_runs.proofs.task.run_task.Given as goal

abbrev pub invariant-loop-group : goal.invariant-loop-group
invariant-loop-group g l =
    let task = l.initial.pass.task in
    let groups = task_groups l.plan task in
    (l.pass.task ≡ task)
    × IsAhead (task_calls l.plan task) groups (drop l.group-index groups) (length l.answers.items)
    × HasBegun g.N.Opening.desk l.plan task l.pass.history l.answers.items
