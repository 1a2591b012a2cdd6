use Rattle.std.proofs.Common.{refl, arith}
use Rattle.lw_planes.specs.Row.{bit_of, row_bit}
use Rattle.lw_kernels.proofs.RowWriting.{with_named_from_bits}
use Rattle.lw_kernels.proofs.SpanLaws.{named_done, named_none}
use Rattle.lw_kernels.proofs.filling.fill.Goals as goal

pub returns-then-count-gt0-clause-bits : goal.returns-then-count-gt0-clause-bits
returns-then-count-gt0-clause-bits c =
    with_named_from_bits c.fill_run.new.row c.args.row.now c.args.from c.args.count (λ _. bit_of c.args.bit) (λ _. bit_of c.args.bit) c.fill_run.auto.row
    (named_done c.fill_run.new.row (λ _. bit_of c.args.bit) (λ x. row_bit c.args.row.now x) c.args.from c.args.count _ _ (omega arith) (omega arith) c.fill_run.ensures)
    (λ x. refl)

pub returns-else-count-gt0-clause-bits : goal.returns-else-count-gt0-clause-bits
returns-else-count-gt0-clause-bits c = named_none c.args.row.now c.args.from c.args.count (λ _. bit_of c.args.bit) (omega arith)
