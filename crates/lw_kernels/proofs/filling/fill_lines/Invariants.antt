use Rattle.std.proofs.Common.{nat_lt}
use Rattle.lw_planes.specs.Row.{bit_of, row_bit}
use Rattle.lw_kernels.proofs.SpanLaws.{RowsDone}
use Rattle.lw_kernels.proofs.filling.fill_lines.Given as goal

-- the rows before this one are done
abbrev pub invariant-loop-row : goal.invariant-loop-row
invariant-loop-row l = RowsDone l.step l.span.from l.span.end l.bytes (λ y. nat_lt y l.row) (λ _ _. bit_of l.bit) (λ p. row_bit l.initial.bytes p)
