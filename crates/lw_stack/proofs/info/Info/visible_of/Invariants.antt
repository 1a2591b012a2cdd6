use Rattle.std.proofs.Common.{take}
use Rattle.lw_stack.proofs.ShownLaws.{IsFront}
use Rattle.lw_stack.proofs.info.Info.visible_of.Given as goal

abbrev pub invariant-loop-front : goal.invariant-loop-front
invariant-loop-front l = IsFront l.self.bounds (take l.front-index l.order) l.slot l.covered
