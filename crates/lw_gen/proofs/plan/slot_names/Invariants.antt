use Rattle.std.proofs.Common.{◌≡◌}
use Rattle.std.specs.List.{flat_map, range_with_len}
use Rattle.lw_gen.specs.Demo.{layer_names}
use Rattle.lw_gen.proofs.plan.slot_names.Given as goal

abbrev pub invariant-loop-task : goal.invariant-loop-task
invariant-loop-task l = l.names.items ≡ flat_map layer_names (range_with_len 0 l.task)
