use Rattle.std.proofs.Common.{◌≡◌, map}
use Rattle.std.specs.List.{range_with_len}
use Rattle.lw_gen.specs.Demo.{demo_calls}
use Rattle.lw_gen.proofs.plan.call_lists.Given as goal

abbrev pub invariant-loop-task : goal.invariant-loop-task
invariant-loop-task l = map (λ calls. calls.items) l.lists.items ≡ map (demo_calls l.number l.tasks) (range_with_len 0 l.task)
