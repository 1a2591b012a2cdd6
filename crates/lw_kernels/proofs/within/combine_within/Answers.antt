use Rattle.std.proofs.Common.{◌+◌, ◌-◌, slice_index, sym, arith}
use Rattle.lw_planes.specs.Row.{row_bit, row_bits}
use Rattle.lw_kernels.specs.Kernel.{blit_bit}
use Rattle.lw_kernels.proofs.RowWriting.{bits_at, with_named_from_bits, minterm_same}
use Rattle.lw_kernels.proofs.SpanLaws.{named_blit, named_none}
use Rattle.lw_kernels.proofs.within.combine_within.Goals as goal

pub returns-then-count-gt0-clause-each : goal.returns-then-count-gt0-clause-each
returns-then-count-gt0-clause-each c = named_blit c.line_within.new.bytes c.args.row.now (row_bit c.args.row.now) c.args.minterm c.args.source_bit c.args.to_bit c.args.count _ _ _ (omega arith) (omega arith) (omega arith) c.line_within.ensures

pub returns-then-count-gt0-clause-bits : goal.returns-then-count-gt0-clause-bits
returns-then-count-gt0-clause-bits c =
    with_named_from_bits c.line_within.new.bytes c.args.row.now c.args.to_bit c.args.count
    (blit_bit c.args.minterm (slice_index (row_bits c.args.row.now)) c.args.source_bit (slice_index (row_bits c.args.row.now)) c.args.to_bit)
    (blit_bit c.args.minterm (row_bit c.args.row.now) c.args.source_bit (row_bit c.args.row.now) c.args.to_bit)
    c.line_within.auto.bytes
    (named_blit c.line_within.new.bytes c.args.row.now (row_bit c.args.row.now) c.args.minterm c.args.source_bit c.args.to_bit c.args.count _ _ _ (omega arith) (omega arith) (omega arith) c.line_within.ensures)
    (λ x. minterm_same c.args.minterm _ _ _ _ (sym (bits_at c.args.row.now (c.args.source_bit + (x - c.args.to_bit)))) (sym (bits_at c.args.row.now x)))

pub returns-else-count-gt0-clause-bits : goal.returns-else-count-gt0-clause-bits
returns-else-count-gt0-clause-bits c = named_none c.args.row.now c.args.to_bit c.args.count _ (omega arith)
