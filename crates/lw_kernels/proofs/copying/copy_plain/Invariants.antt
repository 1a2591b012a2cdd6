use Rattle.std.proofs.Common.{◌+◌, ◌-◌, ◌*◌}
use Rattle.lw_planes.specs.Row.{row_bit}
use Rattle.lw_kernels.proofs.RowWriting.{DoneBefore}
use Rattle.lw_kernels.proofs.copying.copy_plain.Given as goal

abbrev pub invariant-loop-index : goal.invariant-loop-index
invariant-loop-index l = DoneBefore l.to (λ x. row_bit l.source (8 * l.start + (x - 8 * l.first))) (λ x. row_bit l.initial.to x) (8 * l.first) (8 * (l.first + l.size)) (l.first + l.index)
