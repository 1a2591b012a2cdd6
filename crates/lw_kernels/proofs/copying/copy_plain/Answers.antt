use Rattle.std.proofs.Common.{◌≡◌, ℕ, ◌+◌, ◌-◌, ◌*◌, ◌<◌, ◌≤◌, length, get_or, ap, refl, ◌∙◌, arith}
use Rattle.std.specs.Int.{bit_at}
use Rattle.lw_planes.specs.Row.{row_bit}
use Rattle.lw_kernels.proofs.RowWriting.{before_none, before_more, before_all, before_at, byte_old, whole_byte}
use Rattle.lw_kernels.proofs.copying.copy_plain.Goals as goal

pub loop-index-init : goal.loop-index-init
loop-index-init c = before_none c.args.to.now (λ x. row_bit c.args.source.now (8 * c.args.start + (x - 8 * c.args.first))) (8 * c.args.first) (8 * (c.args.first + c.args.size)) (c.args.first + 0) (omega arith)

pub loop-index-preserved : goal.loop-index-preserved
loop-index-preserved c =
    let source = c.args.source.now in
    let old : ℕ → ℕ = λ x. row_bit c.args.to.now x in
    let new : ℕ → ℕ = λ x. row_bit source (8 * c.args.start + (x - 8 * c.args.first)) in
    let first : ℕ = c.args.first in
    let last : ℕ = first + c.args.size in
    let at : ℕ = c.loop-index.index in
    let index : ℕ = first + at in
    let here : ℕ = c.args.start + at in
    let inside : index < length c.loop-index.to = omega arith in
    let next : index + 1 ≡ first + (at + 1) = omega arith in
    before_at _ new old (8 * first) (8 * last) (index + 1) (first + (at + 1)) next
    (before_more c.loop-index.to new old (8 * first) (8 * last) index (get_or source here 0) inside c.loop-index.invariant
    (λ j low.
    let place : 8 * here + j ≡ 8 * c.args.start + (8 * index + j - 8 * first) = omega arith in
    whole_byte first last index j (bit_at (get_or source here 0) (7 - j)) (new (8 * index + j)) (old (8 * index + j)) (omega arith) (omega arith) low
    (byte_old source here (get_or source here 0) j low refl ∙ ap (λ n. row_bit source n) place)))

pub returns : goal.returns
returns c =
    let late : 8 * (c.args.first + c.args.size) ≤ 8 * (c.args.first + c.loop-index.index) = omega arith in
    before_all c.loop-index.to (λ x. row_bit c.args.source.now (8 * c.args.start + (x - 8 * c.args.first))) (λ x. row_bit c.args.to.now x) (8 * c.args.first) (8 * (c.args.first + c.args.size)) (c.args.first + c.loop-index.index) late c.loop-index.invariant
