use Rattle.std.proofs.Common.{◌+◌, ◌*◌}
use Rattle.lw_planes.specs.Row.{bit_of, row_bit}
use Rattle.lw_kernels.proofs.RowWriting.{DoneBefore}
use Rattle.lw_kernels.proofs.filling.fill_bytes.Given as goal

abbrev pub invariant-loop-index : goal.invariant-loop-index
invariant-loop-index l = DoneBefore l.row (λ _. bit_of l.bit) (λ x. row_bit l.initial.row x) (8 * l.first) (8 * (l.first + l.count)) (l.first + l.index)
