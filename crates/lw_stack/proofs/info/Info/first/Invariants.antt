use Rattle.std.proofs.Common.{◌≡◌, None, take}
use Rattle.lw_stack.specs.Stack.{first_at}
use Rattle.lw_stack.proofs.info.Info.first.Given as goal

abbrev pub invariant-loop-slot : goal.invariant-loop-slot
invariant-loop-slot l = first_at l.self.bounds (take l.slot-index l.order) l.x l.y ≡ None
