use Rattle.std.proofs.Common.{◌≡◌, ℕ, ◌+◌, ◌-◌, ◌*◌, ◌%◌, ◌<◌, bit_and, bit_xor, ap, ◌∙◌, arith}
use Rattle.std.specs.Int.{bit_at}
use Rattle.lw_planes.specs.Row.{row_bit}
use Rattle.lw_kernels.specs.Words.{spot}
use Rattle.lw_kernels.proofs.ByteLaws.{bit_at_merged}
use Rattle.lw_kernels.proofs.RowWriting.{done_same, done_starts, done_ends}
use Rattle.lw_kernels.proofs.WordLaws.{word_written}
use Rattle.lw_kernels.proofs.columns.copy_row.Goals as goal

pub returns-then-full : goal.returns-then-full
returns-then-full c =
    let source = c.args.source.now in
    let k = c.args.column in
    let is = c.requires.column in
    let all : k.count ≡ 8 * k.size = c.requires.full c.if-full.true in
    let lead : k.lead ≡ 0 = omega (arith, is.named, all) in
    let at : ℕ = c.args.row * c.args.to_step + k.at in
    let start : ℕ = c.args.row * c.args.source_step + k.start in
    let place : ℕ = 8 * start + k.place in
    let bits : ℕ = c.turned-bits.result in
    let two = c.put_word.new.to in
    let first : ℕ → ℕ = λ x. bit_at bits (spot (x - 8 * at)) in
    let old : ℕ → ℕ = λ x. row_bit c.args.to.now x in
    let from : ℕ = 8 * at + k.lead in
    let end : ℕ = from + k.count in
    let begins : 8 * at ≡ from = omega (arith, lead) in
    let ends : 8 * (at + k.size) ≡ end = omega (arith, lead, all) in
    done_same two first (λ x. row_bit source (place + (x - from))) old from end
    (done_starts two first old (8 * at) from end begins (done_ends two first old (8 * at) (8 * (at + k.size)) end ends c.put_word.ensures))
    (λ x late low.
    let j : ℕ = x - 8 * at in
    let near : k.place + j < 8 * k.size = omega (arith, is.source_named, all, low, lead) in
    let in_word : j < 64 = omega (arith, near, is.small) in
    let turns : (j + k.turn) % 64 ≡ k.place + j = omega (arith, is.turn, near, is.small, lead) in
    let same : 8 * start + (k.place + j) ≡ place + (x - from) = omega (arith, begins) in
    c.turned-bits.ensures j in_word ∙
    (ap (λ n. bit_at c.word_at-word.result (spot n)) turns ∙ (c.word_at-word.ensures (k.place + j) near ∙ ap (row_bit source) same)))

pub returns-else-full : goal.returns-else-full
returns-else-full c =
    let source = c.args.source.now in
    let k = c.args.column in
    let is = c.requires.column in
    let at : ℕ = c.args.row * c.args.to_step + k.at in
    let start : ℕ = c.args.row * c.args.source_step + k.start in
    let place : ℕ = 8 * start + k.place in
    let bits : ℕ = c.turned-bits.result in
    let old : ℕ = c.word_at-old.result in
    word_written c.args.to.now c.put_word-else-full.new.to (bit_xor (bit_and (bit_xor bits old) k.mask) old) bits old k.mask k.size at k.lead k.count
    (λ x. row_bit source (place + (x - (8 * at + k.lead)))) is.small is.named
    (λ i _. bit_at_merged bits old k.mask i) is.mask c.word_at-old.ensures
    (λ j late low.
    let near : k.place + (j - k.lead) < 8 * k.size = omega (arith, is.source_named, late, low) in
    let in_word : j < 64 = omega (arith, is.named, is.small, low) in
    let turns : (j + k.turn) % 64 ≡ k.place + (j - k.lead) = omega (arith, is.turn, late, near, is.small) in
    let same : 8 * start + (k.place + (j - k.lead)) ≡ place + (8 * at + j - (8 * at + k.lead)) = omega arith in
    c.turned-bits.ensures j in_word ∙
    (ap (λ n. bit_at c.word_at-word.result (spot n)) turns ∙ (c.word_at-word.ensures (k.place + (j - k.lead)) near ∙ ap (row_bit source) same)))
    c.put_word-else-full.ensures
