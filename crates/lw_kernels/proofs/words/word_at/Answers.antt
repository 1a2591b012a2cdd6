use Rattle.std.proofs.Common.{◌≡◌, ◌+◌, ◌-◌, ◌*◌, ◌<◌, ◌≤◌, ap, ◌∙◌, arith}
use Rattle.lw_planes.specs.Row.{row_bit}
use Rattle.lw_kernels.proofs.RowWriting.{done_inside}
use Rattle.lw_kernels.proofs.words.word_at.Goals as goal

pub returns : goal.returns
returns c = λ j low.
    let bytes = c.copy_plain.new.to in
    let in_word : j < 64 = omega (arith, low, c.requires.small) in
    let first : 8 * 0 ≤ j = omega arith in
    let last : j < 8 * (0 + c.args.size) = omega (arith, low) in
    let same : 8 * c.args.at + (j - 8 * 0) ≡ 8 * c.args.at + j = omega arith in
    c.word_of.ensures j in_word ∙
    (done_inside bytes (λ x. row_bit c.args.row.now (8 * c.args.at + (x - 8 * 0))) _ (8 * 0) (8 * (0 + c.args.size)) j c.copy_plain.ensures first last ∙ ap (row_bit c.args.row.now) same)
