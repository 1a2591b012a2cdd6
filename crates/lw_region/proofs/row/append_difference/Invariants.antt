use Rattle.std.proofs.Common.{◌+◌, ◌≤◌, length}
use Rattle.std.specs.Prelude.{vec_len, vec_capacity}
use Rattle.lw_region.specs.declared.operation.Operation.TheVariants.{Difference}
use Rattle.lw_region.proofs.Columns.{due_of}
use Rattle.lw_region.proofs.Merges.{ApartState}
use Rattle.lw_region.proofs.row.append_difference.Given as goal

abbrev pub invariant-loop-r : goal.invariant-loop-r
invariant-loop-r l = record {
  state : ApartState l.top l.bottom l.initial.out.items (due_of Difference l.a l.b) l.left_a l.left_b l.at l.out.items;
  room : vec_len l.out + (length l.left_a + length l.left_b) ≤ vec_capacity l.out;
}

abbrev pub decreases-loop-r : goal.decreases-loop-r
decreases-loop-r l = length l.left_a + length l.left_b
