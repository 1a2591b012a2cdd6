use Rattle.std.proofs.Common.{◌+◌, ◌-◌, slice_index, sym, arith}
use Rattle.lw_planes.specs.Row.{row_bit, row_bits}
use Rattle.lw_kernels.specs.Kernel.{blit_bit}
use Rattle.lw_kernels.proofs.RowWriting.{bits_at, with_named_from_bits, minterm_same}
use Rattle.lw_kernels.proofs.SpanLaws.{named_blit, named_none}
use Rattle.lw_kernels.proofs.combining.combine.Goals as goal

pub returns-then-count-gt0-clause-bits : goal.returns-then-count-gt0-clause-bits
returns-then-count-gt0-clause-bits c =
    with_named_from_bits c.blit_line.new.to c.args.to.now c.args.to_bit c.args.count
    (blit_bit c.args.minterm (slice_index (row_bits c.args.source.now)) c.args.source_bit (slice_index (row_bits c.args.to.now)) c.args.to_bit)
    (blit_bit c.args.minterm (row_bit c.args.source.now) c.args.source_bit (row_bit c.args.to.now) c.args.to_bit)
    c.blit_line.auto.to
    (named_blit c.blit_line.new.to c.args.source.now (row_bit c.args.to.now) c.args.minterm c.args.source_bit c.args.to_bit c.args.count _ _ _ (omega arith) (omega arith) (omega arith) c.blit_line.ensures)
    (λ x. minterm_same c.args.minterm _ _ _ _ (sym (bits_at c.args.source.now (c.args.source_bit + (x - c.args.to_bit)))) (sym (bits_at c.args.to.now x)))

pub returns-else-count-gt0-clause-bits : goal.returns-else-count-gt0-clause-bits
returns-else-count-gt0-clause-bits c = named_none c.args.to.now c.args.to_bit c.args.count _ (omega arith)
