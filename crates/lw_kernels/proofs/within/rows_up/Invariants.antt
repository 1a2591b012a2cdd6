use Rattle.std.proofs.Common.{◌+◌, ◌-◌}
use Rattle.lw_planes.specs.Row.{row_bit}
use Rattle.lw_planes.specs.Minterm.{minterm_bit}
use Rattle.lw_kernels.specs.Kernel.{is_between, place_in}
use Rattle.lw_kernels.proofs.SpanLaws.{RowsDone}
use Rattle.lw_kernels.proofs.within.rows_up.Given as goal

-- the rows that were come to are done
abbrev pub invariant-loop-row : goal.invariant-loop-row
invariant-loop-row l = RowsDone l.step l.span.from l.span.end l.bytes (λ y. is_between (l.to + l.row) (l.to + l.rows) y) (λ y x. minterm_bit l.minterm (row_bit l.initial.bytes (place_in l.step (l.source.row + (y - l.to)) (l.source.bit + (x - l.span.from)))) (row_bit l.initial.bytes (place_in l.step y x))) (λ p. row_bit l.initial.bytes p)
