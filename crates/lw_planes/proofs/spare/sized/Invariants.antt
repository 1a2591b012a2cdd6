use Rattle.std.proofs.Common.{◌≤◌, ◌-◌, length}
use Rattle.lw_planes.proofs.spare.sized.Given as goal

abbrev pub invariant-loop-sized : goal.invariant-loop-sized
invariant-loop-sized l = length l.sized.items ≤ l.count

abbrev pub decreases-loop-sized : goal.decreases-loop-sized
decreases-loop-sized l = l.count - length l.sized.items
