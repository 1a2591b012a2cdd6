use Rattle.std.proofs.Common.{◌+◌, ◌*◌, min}
use Rattle.lw_planes.specs.Row.{row_bit}
use Rattle.lw_kernels.specs.Kernel.{blit_bit}
use Rattle.lw_kernels.proofs.RowWriting.{Done}
use Rattle.lw_kernels.proofs.within.pieces_backwards.Given as goal

abbrev pub invariant-loop-number : goal.invariant-loop-number
invariant-loop-number l = Done l.row (blit_bit l.minterm (row_bit l.initial.row) (8 * l.start + l.shift) (row_bit l.initial.row) (8 * l.first)) (row_bit l.initial.row) (8 * min l.last (l.first + 256 * l.number)) (8 * l.last)
