use Rattle.std.proofs.Common.{◌+◌, ◌-◌, ◌*◌}
use Rattle.lw_planes.specs.Row.{row_bit}
use Rattle.lw_kernels.proofs.RowWriting.{DoneFrom}
use Rattle.lw_kernels.proofs.moving.move_right_bytes.Given as goal

abbrev pub invariant-loop-index : goal.invariant-loop-index
invariant-loop-index l = DoneFrom l.row (λ x. row_bit l.initial.row (x - 8 * l.behind + l.shift)) (λ x. row_bit l.initial.row x) (8 * l.first) (8 * l.last) l.index
