use Rattle.std.proofs.Common.{take}
use Rattle.lw_stack.specs.Stack.{LieApart}
use Rattle.lw_arrange.proofs.desktop.is_near.Given as goal

abbrev pub invariant-loop-part : goal.invariant-loop-part
invariant-loop-part l = LieApart (take l.part-index l.parts) l.rect
