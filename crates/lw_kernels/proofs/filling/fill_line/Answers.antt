use Rattle.std.proofs.Common.{◌≡◌, ℕ, ◌+◌, ◌-◌, ◌*◌, ◌%◌, refl, arith}
use Rattle.std.specs.Int.{bit_at}
use Rattle.lw_planes.specs.Row.{bit_of, row_bit}
use Rattle.lw_kernels.proofs.RowWriting.{Done, join_left, join_right}
use Rattle.lw_kernels.proofs.SpanLaws.{masked_done, middle_done, parts}
use Rattle.lw_kernels.proofs.filling.fill_line.Goals as goal

pub returns : goal.returns
returns c =
    let s = c.args.span in
    let at : ℕ = c.args.at in
    let old = c.args.bytes.now in
    let one = c.put_masked.new.bytes in
    let two = c.put_masked-2.new.bytes in
    let three = c.fill_whole.new.row in
    let new : ℕ → ℕ = λ _. bit_of c.args.bit in
    let is = c.requires.span in
    let p = parts s is in
    let value : (x : ℕ) → bit_at c.spread-value.result (7 - x % 8) ≡ bit_of c.args.bit = λ x. c.spread-value.ensures (7 - x % 8) (omega arith) in
    let head : Done one new (λ x. row_bit old x) (8 * at + s.from) (8 * at + s.cut) =
    masked_done old one (λ x. bit_at c.spread-value.result (7 - x % 8)) new s.head at s.first s.from s.cut p.begins p.cut is.head c.put_masked.ensures (λ x _ _ _. value x) in
    let tail : Done two new (λ x. row_bit one x) (8 * at + s.rest) (8 * at + s.end) =
    masked_done one two (λ x. bit_at c.spread-value.result (7 - x % 8)) new s.tail at s.last s.rest s.end p.rest p.ends is.tail c.put_masked-2.ensures (λ x _ _ _. value x) in
    let middle : Done three new (λ x. row_bit two x) (8 * at + s.cut) (8 * at + s.rest) =
    middle_done s at three new new (λ x. row_bit two x) is c.fill_whole.ensures (λ _ _ x _ _. refl) in
    join_right one three new new new (λ x. row_bit old x) (8 * at + s.from) (8 * at + s.cut) (8 * at + s.end) (omega (arith, p.head)) (omega (arith, p.middle, p.tail)) head
    (join_left two three new new new (λ x. row_bit one x) (8 * at + s.cut) (8 * at + s.rest) (8 * at + s.end) (omega (arith, p.middle)) (omega (arith, p.tail)) tail middle (λ x _ _. refl) (λ x _ _. refl))
    (λ x _ _. refl) (λ x _ _. refl)
