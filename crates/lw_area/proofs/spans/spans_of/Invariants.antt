use Rattle.std.proofs.Common.{ℤ, pos, ◌+ℤ◌}
use Rattle.lw_region.specs.Order.{natural}
use Rattle.lw_area.proofs.Sweeps.{IsSwept}
use Rattle.lw_area.proofs.spans.spans_of.Given as goal

abbrev pub invariant-loop-row : goal.invariant-loop-row
invariant-loop-row l = IsSwept l.points l.fn.pattern l.top l.row l.slab.top l.slab.edges.items l.limit l.count l.stripes.items

abbrev pub decreases-loop-row : goal.decreases-loop-row
decreases-loop-row l = natural (l.row +ℤ pos 32768)
