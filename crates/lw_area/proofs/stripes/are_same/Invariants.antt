use Rattle.std.proofs.Common.{◌≡◌, length}
use Rattle.lw_region.specs.Bands.{same_runs}
use Rattle.lw_area.proofs.stripes.are_same.Given as goal

abbrev pub invariant-loop-r : goal.invariant-loop-r
invariant-loop-r l = same_runs l.left l.right ≡ same_runs l.runs l.others

abbrev pub decreases-loop-r : goal.decreases-loop-r
decreases-loop-r l = length l.left
