use Rattle.std.proofs.Common.{◌+◌, length}
use Rattle.std.specs.Prelude.{vec_len, vec_capacity}
use Rattle.lw_region.specs.declared.operation.Operation.TheVariants.{SymmetricDifference}
use Rattle.lw_region.specs.Columns.{columns}
use Rattle.lw_region.proofs.Columns.{due_of}
use Rattle.lw_region.proofs.Edges.{edges, differ, EitherState, HaveRoom}
use Rattle.lw_region.proofs.row.append_symmetric_difference.Given as goal

abbrev pub invariant-loop-left_a : goal.invariant-loop-left_a
invariant-loop-left_a l = record {
  state : EitherState l.top l.bottom l.initial.out.items (due_of SymmetricDifference l.a l.b) l.left_a l.left_b l.is_begun_a l.is_begun_b l.start l.out.items;
  room : HaveRoom (vec_len l.out) (length (edges l.is_begun_a (columns l.left_a)) + length (edges l.is_begun_b (columns l.left_b))) (differ l.is_begun_a l.is_begun_b) (vec_capacity l.out);
}

abbrev pub decreases-loop-left_a : goal.decreases-loop-left_a
decreases-loop-left_a l = length (edges l.is_begun_a (columns l.left_a)) + length (edges l.is_begun_b (columns l.left_b))
