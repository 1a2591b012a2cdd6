use Rattle.std.proofs.Common.{take}
use Rattle.lw_stack.specs.Sets.{AreOfOthers}
use Rattle.lw_stack.proofs.sets.place_of.Given as goal

abbrev pub invariant-loop-index : goal.invariant-loop-index
invariant-loop-index l = AreOfOthers l.slot (take l.index l.parts)
