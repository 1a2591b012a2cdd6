use Rattle.std.proofs.Common.{◌≡◌, ℕ, ◌+◌, ◌-◌, ◌*◌, ◌<◌, ap, ◌∙◌, arith}
use Rattle.std.specs.Int.{bit_at}
use Rattle.lw_planes.specs.Row.{row_bit}
use Rattle.lw_kernels.specs.Words.{spot}
use Rattle.lw_kernels.proofs.RowWriting.{done_same}
use Rattle.lw_kernels.proofs.WordLaws.{low_bit}
use Rattle.lw_kernels.proofs.words.put_whole.Goals as goal

pub returns : goal.returns
returns c =
    let at : ℕ = c.args.at in
    let bytes = c.to_le_bytes.result in
    done_same c.copy_plain.new.to (λ x. row_bit bytes (8 * 0 + (x - 8 * at))) (λ x. bit_at c.args.word (spot (x - 8 * at))) (λ x. row_bit c.args.to.now x) (8 * at) (8 * (at + 8)) c.copy_plain.ensures
    (λ x late low.
    let j : ℕ = x - 8 * at in
    let in_word : j < 64 = omega (arith, low) in
    let same : 8 * 0 + j ≡ j = omega arith in
    ap (row_bit bytes) same ∙ (ap (λ bs. row_bit bs j) c.to_le_bytes.ensures ∙ low_bit c.args.word j in_word))
