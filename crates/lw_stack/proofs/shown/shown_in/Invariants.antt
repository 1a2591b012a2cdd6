use Rattle.std.proofs.Common.{take}
use Rattle.lw_stack.proofs.AreaLaws.{ArePassedIn}
use Rattle.lw_stack.proofs.shown.shown_in.Given as goal

abbrev pub invariant-loop-slot : goal.invariant-loop-slot
invariant-loop-slot l = ArePassedIn l.area l.bounds (take l.slot-index l.order) l.rest l.sets.items
