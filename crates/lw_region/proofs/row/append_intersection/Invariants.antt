use Rattle.std.proofs.Common.{◌+◌, ◌≤◌, length}
use Rattle.std.specs.Prelude.{vec_len, vec_capacity}
use Rattle.lw_region.specs.declared.operation.Operation.TheVariants.{Intersection}
use Rattle.lw_region.proofs.Columns.{due_of}
use Rattle.lw_region.proofs.Merges.{CommonState}
use Rattle.lw_region.proofs.row.append_intersection.Given as goal

abbrev pub invariant-loop-r : goal.invariant-loop-r
invariant-loop-r l = record {
  state : CommonState l.top l.bottom l.initial.out.items (due_of Intersection l.a l.b) l.left_a l.left_b l.out.items;
  room : vec_len l.out + (length l.left_a + length l.left_b) ≤ vec_capacity l.out;
}

abbrev pub decreases-loop-r : goal.decreases-loop-r
decreases-loop-r l = length l.left_a + length l.left_b
