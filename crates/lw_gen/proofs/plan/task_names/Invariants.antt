use Rattle.std.proofs.Common.{◌≡◌, map}
use Rattle.std.specs.List.{range_with_len}
use Rattle.lw_gen.specs.Demo.{task_name}
use Rattle.lw_gen.proofs.plan.task_names.Given as goal

abbrev pub invariant-loop-task : goal.invariant-loop-task
invariant-loop-task l = l.names.items ≡ map task_name (range_with_len 0 l.task)
