use Rattle.std.proofs.Common.{◌≡◌, ℕ, ◌+◌, ◌-◌, ◌*◌, ap, arith}
use Rattle.lw_planes.specs.Row.{row_bit}
use Rattle.lw_kernels.proofs.RowWriting.{done_put}
use Rattle.lw_kernels.proofs.copying.copy_block.Goals as goal

pub returns : goal.returns
returns c =
    let source = c.args.source.now in
    let from : ℕ = 8 * c.args.first in
    let place : ℕ = 8 * c.args.start + c.args.shift in
    done_put c.put_block.new.to c.copy_shifted.new.to (λ x. row_bit source (place + (x - from))) (λ x. row_bit source (place + (x - 0))) _ (λ x. row_bit c.args.to.now x) from (8 * c.args.size) (8 * (c.args.first + c.args.size))
    c.copy_shifted.ensures c.put_block.ensures (omega arith)
    (λ x p q. let same : place + (x - from - 0) ≡ place + (x - from) = omega arith in ap (λ n. row_bit source n) same)
