use Rattle.std.proofs.Common.{ℕ, ◌+◌, ◌-◌, ◌/◌, ◌%◌, get_or, arith}
use Rattle.std.specs.Int.{bit_at}
use Rattle.lw_planes.specs.Row.{row_bit}
use Rattle.lw_kernels.proofs.SpanLaws.{byte_done, inverted_bit}
use Rattle.lw_kernels.proofs.flipping.flip_run.Goals as goal

pub returns-then-count-from : goal.returns-then-count-from
returns-then-count-from c =
    let index : ℕ = c.args.from / 8 in
    let byte : ℕ = get_or c.args.row.now index 0 in
    byte_done c.args.row.now c.put_masked.new.bytes (λ x. bit_at (255 - byte) (7 - x % 8)) (λ x. 1 - row_bit c.args.row.now x) c.mask.result
    index c.args.from (c.args.from + c.args.count) (omega arith) (omega arith) c.mask.ensures c.put_masked.ensures
    (λ x here. inverted_bit c.args.row.now index x (omega arith) here)
