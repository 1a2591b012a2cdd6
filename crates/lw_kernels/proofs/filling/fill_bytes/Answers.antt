use Rattle.std.proofs.Common.{◌≡◌, ℕ, ◌+◌, ◌-◌, ◌*◌, ◌<◌, ◌≤◌, length, arith}
use Rattle.std.specs.Int.{bit_at}
use Rattle.lw_planes.specs.Row.{bit_of, row_bit}
use Rattle.lw_kernels.proofs.RowWriting.{before_none, before_more, before_all, before_at, whole_byte}
use Rattle.lw_kernels.proofs.filling.fill_bytes.Goals as goal

pub loop-index-init : goal.loop-index-init
loop-index-init c = before_none c.args.row.now (λ _. bit_of c.args.bit) (8 * c.args.first) (8 * (c.args.first + c.args.count)) (c.args.first + 0) (omega arith)

pub loop-index-preserved : goal.loop-index-preserved
loop-index-preserved c =
    let old : ℕ → ℕ = λ x. row_bit c.args.row.now x in
    let new : ℕ → ℕ = λ _. bit_of c.args.bit in
    let first : ℕ = c.args.first in
    let last : ℕ = c.args.first + c.args.count in
    let index : ℕ = first + c.loop-index.index in
    let inside : index < length c.loop-index.row = omega arith in
    let next : index + 1 ≡ first + (c.loop-index.index + 1) = omega arith in
    before_at _ new old (8 * first) (8 * last) (index + 1) (first + (c.loop-index.index + 1)) next
    (before_more c.loop-index.row new old (8 * first) (8 * last) index c.spread-value.result inside c.loop-index.invariant
    (λ j low. whole_byte first last index j (bit_at c.spread-value.result (7 - j)) (new (8 * index + j)) (old (8 * index + j)) (omega arith) (omega arith) low
    (c.spread-value.ensures (7 - j) (omega arith))))

pub returns : goal.returns
returns c =
    let late : 8 * (c.args.first + c.args.count) ≤ 8 * (c.args.first + c.loop-index.index) = omega arith in
    before_all c.loop-index.row (λ _. bit_of c.args.bit) (λ x. row_bit c.args.row.now x) (8 * c.args.first) (8 * (c.args.first + c.args.count)) (c.args.first + c.loop-index.index) late c.loop-index.invariant
