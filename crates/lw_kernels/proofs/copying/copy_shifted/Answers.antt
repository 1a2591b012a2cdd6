use Rattle.std.proofs.Common.{◌≡◌, ℕ, ◌+◌, ◌-◌, ◌*◌, ◌<◌, ◌≤◌, length, ap, ◌∙◌, arith}
use Rattle.std.specs.Int.{bit_at}
use Rattle.lw_planes.specs.Row.{row_bit}
use Rattle.lw_kernels.proofs.RowWriting.{before_none, before_more, before_all, whole_byte}
use Rattle.lw_kernels.proofs.copying.copy_shifted.Goals as goal

pub loop-index-init : goal.loop-index-init
loop-index-init c = before_none c.args.to.now (λ x. row_bit c.args.source.now (8 * c.args.start + c.args.shift + (x - 8 * c.args.first))) (8 * c.args.first) (8 * c.args.last) c.args.first (omega arith)

pub loop-index-preserved : goal.loop-index-preserved
loop-index-preserved c =
    let source = c.args.source.now in
    let old : ℕ → ℕ = λ x. row_bit c.args.to.now x in
    let new : ℕ → ℕ = λ x. row_bit source (8 * c.args.start + c.args.shift + (x - 8 * c.args.first)) in
    let index : ℕ = c.loop-index.index in
    let at : ℕ = c.args.start + (index - c.args.first) in
    let inside : index < length c.loop-index.to = omega arith in
    before_more c.loop-index.to new old (8 * c.args.first) (8 * c.args.last) index c.byte_from.result inside c.loop-index.invariant
    (λ j low.
    let place : 8 * at + c.args.shift + j ≡ 8 * c.args.start + c.args.shift + (8 * index + j - 8 * c.args.first) = omega arith in
    whole_byte c.args.first c.args.last index j (bit_at c.byte_from.result (7 - j)) (new (8 * index + j)) (old (8 * index + j)) (omega arith) (omega arith) low
    (c.byte_from.ensures j low ∙ ap (λ n. row_bit source n) place))

pub returns : goal.returns
returns c =
    let late : 8 * c.args.last ≤ 8 * c.loop-index.index = omega arith in
    before_all c.loop-index.to (λ x. row_bit c.args.source.now (8 * c.args.start + c.args.shift + (x - 8 * c.args.first))) (λ x. row_bit c.args.to.now x) (8 * c.args.first) (8 * c.args.last) c.loop-index.index late c.loop-index.invariant
