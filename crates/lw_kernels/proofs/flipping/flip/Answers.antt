use Rattle.std.proofs.Common.{◌-◌, get_or, ap, sym, arith}
use Rattle.lw_planes.specs.Row.{row_bit, row_bits}
use Rattle.lw_kernels.proofs.RowWriting.{bits_at, with_named_from_bits}
use Rattle.lw_kernels.proofs.SpanLaws.{named_done, named_none}
use Rattle.lw_kernels.proofs.flipping.flip.Goals as goal

pub returns-then-count-gt0-clause-bits : goal.returns-then-count-gt0-clause-bits
returns-then-count-gt0-clause-bits c =
    with_named_from_bits c.flip_run.new.row c.args.row.now c.args.from c.args.count (λ x. 1 - get_or (row_bits c.args.row.now) x 0) (λ x. 1 - row_bit c.args.row.now x) c.flip_run.auto.row
    (named_done c.flip_run.new.row (λ x. 1 - row_bit c.args.row.now x) (λ x. row_bit c.args.row.now x) c.args.from c.args.count _ _ (omega arith) (omega arith) c.flip_run.ensures)
    (λ x. ap (λ n. 1 - n) (sym (bits_at c.args.row.now x)))

pub returns-else-count-gt0-clause-bits : goal.returns-else-count-gt0-clause-bits
returns-else-count-gt0-clause-bits c = named_none c.args.row.now c.args.from c.args.count (λ x. 1 - get_or (row_bits c.args.row.now) x 0) (omega arith)
