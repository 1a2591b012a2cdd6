use Rattle.std.proofs.Common.{◌+◌, ◌-◌, ◌/◌, ◌%◌, arith}
use Rattle.std.specs.Int.{bit_at}
use Rattle.lw_planes.specs.Row.{bit_of}
use Rattle.lw_kernels.proofs.SpanLaws.{byte_done}
use Rattle.lw_kernels.proofs.filling.fill_run.Goals as goal

pub returns-then-count-from : goal.returns-then-count-from
returns-then-count-from c =
    byte_done c.args.row.now c.put_masked.new.bytes (λ x. bit_at c.spread.result (7 - x % 8)) (λ _. bit_of c.args.bit) c.mask.result
    (c.args.from / 8) c.args.from (c.args.from + c.args.count) (omega arith) (omega arith) c.mask.ensures c.put_masked.ensures
    (λ x _. c.spread.ensures (7 - x % 8) (omega arith))
