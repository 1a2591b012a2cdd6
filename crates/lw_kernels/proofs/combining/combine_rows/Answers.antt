use Rattle.std.proofs.Common.{◌+◌, ◌-◌, nat_lt}
use Rattle.lw_planes.specs.Row.{row_bit}
use Rattle.lw_kernels.specs.Kernel.{place_in}
use Rattle.lw_kernels.proofs.ColumnLaws.{rows_copied}
use Rattle.lw_kernels.proofs.combining.combine_rows.Goals as goal

pub returns-then-goes_by_columns : goal.returns-then-goes_by_columns
returns-then-goes_by_columns c =
    rows_copied c.args.to_step c.args.to_bit (c.args.to_bit + c.args.count) c.copy_columns.new.to c.args.source.now (λ y. nat_lt y c.args.rows)
    (λ y x. place_in c.args.source_step y (c.args.source_bit + (x - c.args.to_bit))) (λ p. row_bit c.args.to.now p) c.args.minterm
    (c.goes_by_columns.ensures.copies c.if-goes_by_columns.true) c.copy_columns.ensures
