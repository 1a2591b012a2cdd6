use Rattle.std.proofs.Common.{ℤ, pos, negsuc, ◌≤ℤ◌, take}
use Rattle.std.specs.List.{All}
use Rattle.lw_area.proofs.slab.first_row.Given as goal

abbrev pub invariant-loop-point : goal.invariant-loop-point
invariant-loop-point l =
    (negsuc 2047 ≤ℤ l.top) × (l.top ≤ℤ pos 4095) × All (λ p. negsuc 2047 ≤ℤ p.y → l.top ≤ℤ p.y) (take l.point-index l.points)
