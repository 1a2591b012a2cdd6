use Rattle.std.proofs.Common.{◌≡◌, [], replicate}
use Rattle.lw_engine.proofs.opening.empty_registers.Given as goal

abbrev pub invariant-loop-task : goal.invariant-loop-task
invariant-loop-task l = l.registers.items ≡ replicate l._task (replicate 8 [])
