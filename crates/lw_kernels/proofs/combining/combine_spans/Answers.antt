use Rattle.std.proofs.Common.{◌+◌, nat_lt}
use Rattle.lw_planes.specs.Row.{row_bit}
use Rattle.lw_kernels.specs.Kernel.{place_in}
use Rattle.lw_kernels.proofs.SpanLaws.{rows_named}
use Rattle.lw_kernels.proofs.combining.combine_spans.Goals as goal

pub returns-then-found-2 : goal.returns-then-found-2
returns-then-found-2 c =
    rows_named c.lines.new.to c.args.to_step (λ y. nat_lt y c.args.rows) c.args.minterm
    (λ y x. row_bit c.args.source.now (place_in c.args.source_step y (c.args.source_bit + x)))
    (row_bit c.args.to.now) _ _ _ _ c.span_of-span.ensures.from c.span_of-span.ensures.end c.lines.ensures

pub returns-then-found-3 : goal.returns-then-found-3
returns-then-found-3 c =
    rows_named c.lines-then-found-3.new.to c.args.to_step (λ y. nat_lt y c.args.rows) c.args.minterm
    (λ y x. row_bit c.args.source.now (place_in c.args.source_step y (c.args.source_bit + x)))
    (row_bit c.args.to.now) _ _ _ _ c.span_of-span.ensures.from c.span_of-span.ensures.end c.lines-then-found-3.ensures

pub returns-else-found-3 : goal.returns-else-found-3
returns-else-found-3 c =
    rows_named c.lines-else-found-3.new.to c.args.to_step (λ y. nat_lt y c.args.rows) c.args.minterm
    (λ y x. row_bit c.args.source.now (place_in c.args.source_step y (c.args.source_bit + x)))
    (row_bit c.args.to.now) _ _ _ _ c.span_of-span.ensures.from c.span_of-span.ensures.end c.lines-else-found-3.ensures
