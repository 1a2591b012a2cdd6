use Rattle.std.proofs.Common.{◌≡◌, ℕ, ◌+◌, ◌-◌, ◌*◌, ◌<◌, ◌≤◌, List, ap, ◌∙◌, arith}
use Rattle.lw_planes.specs.Row.{row_bit}
use Rattle.lw_kernels.proofs.RowWriting.{Done, done_before, done_inside}
use Rattle.lw_kernels.proofs.PairLaws.{pair_fetched}
use Rattle.lw_kernels.proofs.pairs.fetch_pair.Goals as goal

-- the first block of bytes, with another one copied after it
first_of : (one two source : List ℕ) (next old : ℕ → ℕ) (place size end : ℕ) → size ≤ 8 → Done one (λ x. row_bit source (8 * place + (x - 8 * 0))) old (8 * 0) (8 * (0 + size)) → Done two next (λ x. row_bit one x) (8 * 8) end → (x : ℕ) → 0 ≤ x → x < 0 + 8 * size → row_bit two x ≡ row_bit source (8 * place + (x - 0))
first_of one two source next old place size end few a b x least low =
    let before : x < 8 * 8 = omega (arith, few, low) in
    let from : 8 * 0 ≤ x = omega arith in
    let inside : x < 8 * (0 + size) = omega (arith, low) in
    let same : 8 * place + (x - 8 * 0) ≡ 8 * place + (x - 0) = omega arith in
    done_before two next (λ x. row_bit one x) (8 * 8) end x b before ∙ (done_inside one (λ x. row_bit source (8 * place + (x - 8 * 0))) old (8 * 0) (8 * (0 + size)) x a from inside ∙ ap (row_bit source) same)

-- the second one
second_of : (two source : List ℕ) (old : ℕ → ℕ) (place size : ℕ) → Done two (λ x. row_bit source (8 * place + (x - 8 * 8))) old (8 * 8) (8 * (8 + size)) → (x : ℕ) → 64 ≤ x → x < 64 + 8 * size → row_bit two x ≡ row_bit source (8 * place + (x - 64))
second_of two source old place size b x late low =
    let from : 8 * 8 ≤ x = omega (arith, late) in
    let inside : x < 8 * (8 + size) = omega (arith, low) in
    let same : 8 * place + (x - 8 * 8) ≡ 8 * place + (x - 64) = omega arith in
    done_inside two (λ x. row_bit source (8 * place + (x - 8 * 8))) old (8 * 8) (8 * (8 + size)) x b from inside ∙ ap (row_bit source) same

pub returns-clause-one : goal.returns-clause-one
returns-clause-one c = λ x low.
    pair_fetched c.shift_pairs.new.block c.copy_plain-2.new.to c.copy_plain-4.new.to c.args.source.now c.args.shift 0 c.args.start c.args.size c.shift_pairs.ensures c.requires.low (omega arith) (omega (arith, c.requires.few))
    (first_of _ _ c.args.source.now _ _ c.args.start c.args.size _ c.requires.few c.copy_plain.ensures c.copy_plain-2.ensures)
    (first_of _ _ c.args.source.now _ _ (c.args.start + 1) c.args.size _ c.requires.few c.copy_plain-3.ensures c.copy_plain-4.ensures)
    x x (omega arith) low

pub returns-clause-two : goal.returns-clause-two
returns-clause-two c = λ x low.
    pair_fetched c.shift_pairs.new.block c.copy_plain-2.new.to c.copy_plain-4.new.to c.args.source.now c.args.shift 64 c.args.other c.args.size c.shift_pairs.ensures c.requires.low (omega arith) (omega (arith, c.requires.few))
    (second_of _ c.args.source.now _ c.args.other c.args.size c.copy_plain-2.ensures)
    (second_of _ c.args.source.now _ (c.args.other + 1) c.args.size c.copy_plain-4.ensures)
    x (64 + x) (omega arith) low
