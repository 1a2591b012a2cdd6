use Rattle.std.proofs.Common.{◌+◌, ◌*◌}
use Rattle.lw_planes.specs.Row.{row_bit}
use Rattle.lw_kernels.specs.Kernel.{blit_bit}
use Rattle.lw_kernels.proofs.RowWriting.{DoneFrom}
use Rattle.lw_kernels.proofs.within.bytes_backwards.Given as goal

abbrev pub invariant-loop-index : goal.invariant-loop-index
invariant-loop-index l = DoneFrom l.row (blit_bit l.minterm (row_bit l.initial.row) (8 * l.start + l.shift) (row_bit l.initial.row) (8 * l.first)) (row_bit l.initial.row) (8 * l.first) (8 * l.last) l.index
