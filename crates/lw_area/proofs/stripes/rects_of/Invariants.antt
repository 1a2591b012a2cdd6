use Rattle.std.proofs.Common.{length}
use Rattle.lw_area.proofs.Stacked.{AreLeft}
use Rattle.lw_area.proofs.stripes.rects_of.Given as goal

abbrev pub invariant-loop-stripe : goal.invariant-loop-stripe
invariant-loop-stripe l = AreLeft l.fn.stripes.items l.left.items l.rects.items

abbrev pub decreases-loop-stripe : goal.decreases-loop-stripe
decreases-loop-stripe l = length l.left.items
