use Rattle.std.proofs.Common.{◌≡◌, None, replicate}
use Rattle.lw_stack.proofs.info.Info.new.Given as goal

abbrev pub invariant-loop-slot : goal.invariant-loop-slot
invariant-loop-slot l = l.bounds.items ≡ replicate l._slot None
