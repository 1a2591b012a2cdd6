use Rattle.std.proofs.Common.{◌≡◌, ℕ, ◌+◌, ◌-◌, ◌*◌, ◌/◌, ◌^◌, ◌<◌, ◌≤◌, length, bit_and, ap, ◌∙◌, arith}
use Rattle.std.specs.Int.{bit_at}
use Rattle.lw_planes.specs.Row.{row_bit}
use Rattle.lw_kernels.specs.Words.{spot}
use Rattle.lw_kernels.proofs.ByteLaws.{bit_at_low_byte, bit_at_shr}
use Rattle.lw_kernels.proofs.RowWriting.{before_none, before_more, before_all, before_at, whole_byte}
use Rattle.lw_kernels.proofs.words.put_word.Goals as goal

pub loop-index-init : goal.loop-index-init
loop-index-init c = before_none c.args.to.now (λ x. bit_at c.args.word (spot (x - 8 * c.args.at))) (8 * c.args.at) (8 * (c.args.at + c.args.size)) (c.args.at + 0) (omega arith)

pub loop-index-preserved : goal.loop-index-preserved
loop-index-preserved c =
    let word : ℕ = c.args.word in
    let old : ℕ → ℕ = λ x. row_bit c.args.to.now x in
    let new : ℕ → ℕ = λ x. bit_at word (spot (x - 8 * c.args.at)) in
    let first : ℕ = c.args.at in
    let last : ℕ = first + c.args.size in
    let at : ℕ = c.loop-index.index in
    let index : ℕ = first + at in
    let byte : ℕ = bit_and (word / 2 ^ (8 * at)) 255 in
    let inside : index < length c.loop-index.to = omega arith in
    let next : index + 1 ≡ first + (at + 1) = omega arith in
    before_at _ new old (8 * first) (8 * last) (index + 1) (first + (at + 1)) next
    (before_more c.loop-index.to new old (8 * first) (8 * last) index byte inside c.loop-index.invariant
    (λ j low.
    let in_byte : 7 - j < 8 = omega arith in
    let place : 8 * at + (7 - j) ≡ spot (8 * index + j - 8 * first) = omega (arith, low) in
    whole_byte first last index j (bit_at byte (7 - j)) (new (8 * index + j)) (old (8 * index + j)) (omega arith) (omega arith) low
    (bit_at_low_byte (word / 2 ^ (8 * at)) (7 - j) in_byte ∙ (bit_at_shr word (8 * at) (7 - j) ∙ ap (bit_at word) place))))

pub returns : goal.returns
returns c =
    let late : 8 * (c.args.at + c.args.size) ≤ 8 * (c.args.at + c.loop-index.index) = omega arith in
    before_all c.loop-index.to (λ x. bit_at c.args.word (spot (x - 8 * c.args.at))) (λ x. row_bit c.args.to.now x) (8 * c.args.at) (8 * (c.args.at + c.args.size)) (c.args.at + c.loop-index.index) late c.loop-index.invariant
