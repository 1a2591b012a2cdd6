use Rattle.std.proofs.Common.{◌+◌, ◌-◌, ◌*◌, nat_lt}
use Rattle.lw_planes.specs.Row.{row_bit}
use Rattle.lw_kernels.specs.Kernel.{place_in}
use Rattle.lw_kernels.proofs.SpanLaws.{RowsDone}
use Rattle.lw_kernels.proofs.columns.copy_rows.Given as goal

-- the rows before this pair are done
abbrev pub invariant-loop-pair : goal.invariant-loop-pair
invariant-loop-pair l = RowsDone l.to_step (8 * l.column.at + l.column.lead) (8 * l.column.at + l.column.lead + l.column.count) l.to (λ y. nat_lt y (2 * l.pair)) (λ y x. row_bit l.source (place_in l.source_step y (8 * l.column.start + l.column.place + (x - (8 * l.column.at + l.column.lead))))) (λ p. row_bit l.initial.to p)
