use Rattle.std.proofs.Common.{◌+◌, ◌-◌, ◌*◌}
use Rattle.lw_planes.specs.Row.{row_bit}
use Rattle.lw_kernels.proofs.RowWriting.{DoneBefore}
use Rattle.lw_kernels.proofs.flipping.flip_bytes.Given as goal

abbrev pub invariant-loop-index : goal.invariant-loop-index
invariant-loop-index l = DoneBefore l.row (λ x. 1 - row_bit l.initial.row x) (λ x. row_bit l.initial.row x) (8 * l.first) (8 * (l.first + l.count)) (l.first + l.index)
