use Rattle.std.proofs.Common.{◌+◌, ◌-◌, ◌*◌, ◌%◌, nat_lt, if◌then◌else◌}
use Rattle.lw_planes.specs.Row.{row_bit}
use Rattle.lw_kernels.proofs.RowWriting.{DoneBefore}
use Rattle.lw_kernels.proofs.pairs.shift_pairs.Given as goal

abbrev pub invariant-loop-index : goal.invariant-loop-index
invariant-loop-index l = DoneBefore l.block (λ x. if nat_lt (x % 8 + l.shift) 8 then row_bit l.left (x + l.shift) else row_bit l.right (x + l.shift - 8)) (λ x. row_bit l.initial.block x) (8 * 0) (8 * 16) l.index
