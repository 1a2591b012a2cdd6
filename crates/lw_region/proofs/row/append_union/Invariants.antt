use Rattle.std.proofs.Common.{◌+◌, ◌≤◌, ◌<◌, length, pos, ◌-ℤ◌, ◌≤ℤ◌}
use Rattle.std.specs.Prelude.{vec_len, vec_capacity}
use Rattle.lw_region.specs.declared.operation.Operation.TheVariants.{Union}
use Rattle.lw_region.specs.Order.{natural}
use Rattle.lw_region.proofs.Columns.{due_of}
use Rattle.lw_region.proofs.Merges.{UnionState}
use Rattle.lw_region.proofs.row.append_union.Given as goal

abbrev pub invariant-loop-left_a : goal.invariant-loop-left_a
invariant-loop-left_a l = record {
  state : UnionState l.top l.bottom l.initial.out.items (due_of Union l.a l.b) l.left_a l.left_b l.start l.end l.out.items;
  room : vec_len l.out + (length l.left_a + length l.left_b) ≤ vec_capacity l.out;
  spare : l.start ≤ℤ l.end → vec_len l.out + (length l.left_a + length l.left_b) < vec_capacity l.out;
}

abbrev pub decreases-loop-left_a : goal.decreases-loop-left_a
decreases-loop-left_a l = (length l.left_a + length l.left_b) + natural (pos 32768 -ℤ l.start)
