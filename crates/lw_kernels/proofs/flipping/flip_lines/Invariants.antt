use Rattle.std.proofs.Common.{◌-◌, nat_lt}
use Rattle.lw_planes.specs.Row.{row_bit}
use Rattle.lw_kernels.specs.Kernel.{place_in}
use Rattle.lw_kernels.proofs.SpanLaws.{RowsDone}
use Rattle.lw_kernels.proofs.flipping.flip_lines.Given as goal

-- the rows before this one are done
abbrev pub invariant-loop-row : goal.invariant-loop-row
invariant-loop-row l = RowsDone l.step l.span.from l.span.end l.bytes (λ y. nat_lt y l.row) (λ y x. 1 - row_bit l.initial.bytes (place_in l.step y x)) (λ p. row_bit l.initial.bytes p)
