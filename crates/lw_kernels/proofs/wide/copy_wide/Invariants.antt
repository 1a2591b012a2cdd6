use Rattle.std.proofs.Common.{◌+◌, ◌-◌, ◌*◌, nat_lt}
use Rattle.lw_planes.specs.Row.{row_bit}
use Rattle.lw_kernels.specs.Kernel.{place_in}
use Rattle.lw_kernels.proofs.SpanLaws.{RowsDone}
use Rattle.lw_kernels.proofs.wide.copy_wide.Given as goal

-- the rows before this one are done
abbrev pub invariant-loop-row : goal.invariant-loop-row
invariant-loop-row l = RowsDone l.to_step (8 * l.column.at + l.column.lead) (8 * l.column.at + l.column.lead + l.column.count) l.to (λ y. nat_lt y l.row) (λ y x. row_bit l.source (place_in l.source_step y (8 * l.column.start + (l.column.shift + l.column.lead) + (x - (8 * l.column.at + l.column.lead))))) (λ p. row_bit l.initial.to p)
