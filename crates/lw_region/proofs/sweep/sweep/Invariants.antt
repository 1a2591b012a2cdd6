use Rattle.std.proofs.Common.{◌≡◌, ◌≤◌, length, pos, ◌-ℤ◌}
use Rattle.lw_region.specs.Order.{natural}
use Rattle.lw_region.specs.Rows.{first_length}
use Rattle.lw_region.proofs.RegionSweep.{SweepState}
use Rattle.lw_region.proofs.sweep.sweep.Given as goal

abbrev pub invariant-loop-next : goal.invariant-loop-next
invariant-loop-next l = record {
  state : SweepState l.operation l.a l.b l.left_a l.left_b l.row l.last l.out.items;
  count_a : l.count_a ≡ first_length l.left_a;
  count_b : l.count_b ≡ first_length l.left_b;
  inside_a : l.count_a ≤ length l.left_a;
  inside_b : l.count_b ≤ length l.left_b;
}

abbrev pub decreases-loop-next : goal.decreases-loop-next
decreases-loop-next l = natural (pos 32768 -ℤ l.row)
