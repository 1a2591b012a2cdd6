use Rattle.std.proofs.Common.{◌+◌, ◌-◌, nat_lt}
use Rattle.lw_planes.specs.Row.{row_bit}
use Rattle.lw_planes.specs.Minterm.{minterm_bit}
use Rattle.lw_kernels.specs.Kernel.{place_in}
use Rattle.lw_kernels.proofs.SpanLaws.{RowsDone}
use Rattle.lw_kernels.proofs.combining.lines.Given as goal

-- the rows before this one are done
abbrev pub invariant-loop-row : goal.invariant-loop-row
invariant-loop-row l = RowsDone l.to_step l.span.from l.span.end l.to (λ y. nat_lt y l.row) (λ y x. minterm_bit l.minterm (row_bit l.source (place_in l.source_step y (l.place + (x - l.span.from)))) (row_bit l.initial.to (place_in l.to_step y x))) (λ p. row_bit l.initial.to p)
