use Rattle.std.proofs.Common.{◌+◌, ◌-◌, ◌*◌}
use Rattle.std.specs.Int.{bit_at}
use Rattle.lw_planes.specs.Row.{row_bit}
use Rattle.lw_kernels.specs.Words.{spot}
use Rattle.lw_kernels.proofs.RowWriting.{DoneBefore}
use Rattle.lw_kernels.proofs.words.put_word.Given as goal

abbrev pub invariant-loop-index : goal.invariant-loop-index
invariant-loop-index l = DoneBefore l.to (λ x. bit_at l.word (spot (x - 8 * l.at))) (λ x. row_bit l.initial.to x) (8 * l.at) (8 * (l.at + l.size)) (l.at + l.index)
