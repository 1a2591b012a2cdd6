use Rattle.std.proofs.Common.{◌≡◌, ℕ, ◌+◌, ◌-◌, ◌*◌, ap, refl, arith}
use Rattle.lw_planes.specs.Row.{row_bit}
use Rattle.lw_kernels.proofs.RowWriting.{Done, done_ends, done_put, join_over}
use Rattle.lw_kernels.proofs.moving.move_ends.Goals as goal

pub returns : goal.returns
returns c =
    let source = c.args.row.now in
    let size : ℕ = c.args.size in
    let from : ℕ = 8 * c.args.first in
    let mid : ℕ = 8 * (c.args.last - size) in
    let stop : ℕ = 8 * (c.args.first + c.args.size) in
    let end : ℕ = 8 * c.args.last in
    let place : ℕ = 8 * c.args.start + c.args.shift in
    let at_tail : ℕ = 8 * (c.args.start + (c.args.last - c.args.first) - size) + c.args.shift in
    let old : ℕ → ℕ = λ x. row_bit source x in
    let new : ℕ → ℕ = λ x. row_bit source (place + (x - from)) in
    let tail : ℕ → ℕ = λ x. row_bit source (at_tail + (x - mid)) in
    let one = c.move_block.new.row in
    let two = c.put_block.new.to in
    let whole : 8 * (c.args.last - size + size) ≡ end = omega arith in
    let put : Done two tail (λ x. row_bit one x) mid (8 * (c.args.last - size + size)) =
    done_put two c.copy_shifted.new.to tail (λ x. row_bit source (at_tail + (x - 0))) _ (λ x. row_bit one x) mid (8 * size) (8 * (c.args.last - size + size)) c.copy_shifted.ensures c.put_block.ensures (omega arith)
    (λ x p q. let same : at_tail + (x - mid - 0) ≡ at_tail + (x - mid) = omega arith in ap (λ n. row_bit source n) same)
    in
    join_over one two new new tail old from mid stop end (omega arith) (omega arith) (omega arith) c.move_block.ensures
    (done_ends two tail (λ x. row_bit one x) mid (8 * (c.args.last - size + size)) end whole put)
    (λ x p q. refl)
    (λ x p q. let same : at_tail + (x - mid) ≡ place + (x - from) = omega arith in ap (λ n. row_bit source n) same)
