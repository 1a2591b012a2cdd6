use Rattle.std.proofs.Common.{◌+◌, ◌-◌}
use Rattle.lw_planes.specs.Row.{row_bit}
use Rattle.lw_kernels.specs.Kernel.{is_named, place_in}
use Rattle.lw_kernels.proofs.SpanLaws.{rows_named}
use Rattle.lw_kernels.proofs.within.combine_rows_within.Goals as goal

pub returns-then-found-2 : goal.returns-then-found-2
returns-then-found-2 c =
    rows_named c.rows_within.new.bytes c.args.step (is_named c.args.to.row c.args.rows) c.args.minterm
    (λ y x. row_bit c.args.bytes.now (place_in c.args.step (c.args.source.row + (y - c.args.to.row)) (c.args.source.bit + x)))
    (row_bit c.args.bytes.now) _ _ _ _ c.span_of-span.ensures.from c.span_of-span.ensures.end c.rows_within.ensures

pub returns-then-found-3 : goal.returns-then-found-3
returns-then-found-3 c =
    rows_named c.rows_within-then-found-3.new.bytes c.args.step (is_named c.args.to.row c.args.rows) c.args.minterm
    (λ y x. row_bit c.args.bytes.now (place_in c.args.step (c.args.source.row + (y - c.args.to.row)) (c.args.source.bit + x)))
    (row_bit c.args.bytes.now) _ _ _ _ c.span_of-span.ensures.from c.span_of-span.ensures.end c.rows_within-then-found-3.ensures

pub returns-else-found-3 : goal.returns-else-found-3
returns-else-found-3 c =
    rows_named c.rows_within-else-found-3.new.bytes c.args.step (is_named c.args.to.row c.args.rows) c.args.minterm
    (λ y x. row_bit c.args.bytes.now (place_in c.args.step (c.args.source.row + (y - c.args.to.row)) (c.args.source.bit + x)))
    (row_bit c.args.bytes.now) _ _ _ _ c.span_of-span.ensures.from c.span_of-span.ensures.end c.rows_within-else-found-3.ensures
