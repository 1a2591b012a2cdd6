use Rattle.std.proofs.Common.{ℤ, negsuc, ◌≤ℤ◌, take}
use Rattle.std.specs.List.{All}
use Rattle.lw_area.proofs.slab.slab_top.Given as goal

abbrev pub invariant-loop-point : goal.invariant-loop-point
invariant-loop-point l =
    (negsuc 2047 ≤ℤ l.top) × (l.top ≤ℤ l.row) × All (λ p. p.y ≤ℤ l.row → p.y ≤ℤ l.top) (take l.point-index l.points)
