use Rattle.std.proofs.Common.{ℕ, ◌+◌, ◌-◌, ◌*◌, ◌%◌, ◌<◌, get_or, ap, refl, arith}
use Rattle.std.specs.Int.{bit_at}
use Rattle.lw_planes.specs.Row.{row_bit}
use Rattle.lw_kernels.proofs.RowWriting.{Done, done_after, done_before, join_left, join_right}
use Rattle.lw_kernels.proofs.SpanLaws.{inverted_bit, masked_done, middle_done, parts}
use Rattle.lw_kernels.proofs.flipping.flip_line.Goals as goal

pub returns : goal.returns
returns c =
    let s = c.args.span in
    let at : ℕ = c.args.at in
    let old = c.args.bytes.now in
    let one = c.put_masked.new.bytes in
    let two = c.put_masked-2.new.bytes in
    let three = c.flip_whole.new.row in
    let was : ℕ → ℕ = λ x. row_bit old x in
    let new : ℕ → ℕ = λ x. 1 - row_bit old x in
    let later : ℕ → ℕ = λ x. 1 - row_bit one x in
    let is = c.requires.span in
    let p = parts s is in
    let first : ℕ = get_or old (at + s.first) 0 in
    let last : ℕ = get_or one (at + s.last) 0 in
    let small : first < 256 = omega arith in
    let small_last : last < 256 = omega arith in
    let head : Done one new was (8 * at + s.from) (8 * at + s.cut) =
    masked_done old one (λ x. bit_at (255 - first) (7 - x % 8)) new s.head at s.first s.from s.cut p.begins p.cut is.head c.put_masked.ensures (λ x here _ _. inverted_bit old (at + s.first) x small here) in
    let tail : Done two later (λ x. row_bit one x) (8 * at + s.rest) (8 * at + s.end) =
    masked_done one two (λ x. bit_at (255 - last) (7 - x % 8)) later s.tail at s.last s.rest s.end p.rest p.ends is.tail c.put_masked-2.ensures (λ x here _ _. inverted_bit one (at + s.last) x small_last here) in
    let middle : Done three (λ x. 1 - row_bit two x) (λ x. row_bit two x) (8 * at + s.cut) (8 * at + s.rest) =
    middle_done s at three (λ x. 1 - row_bit two x) (λ x. 1 - row_bit two x) (λ x. row_bit two x) is c.flip_whole.ensures (λ _ _ x _ _. refl) in
    join_right one three new new later was (8 * at + s.from) (8 * at + s.cut) (8 * at + s.end) (omega (arith, p.head)) (omega (arith, p.middle, p.tail)) head
    (join_left two three later later (λ x. 1 - row_bit two x) (λ x. row_bit one x) (8 * at + s.cut) (8 * at + s.rest) (8 * at + s.end) (omega (arith, p.middle)) (omega (arith, p.tail)) tail middle (λ x _ _. refl)
    (λ x _ q. ap (λ n. 1 - n) (done_before two later (λ x. row_bit one x) (8 * at + s.rest) (8 * at + s.end) x tail q)))
    (λ x _ _. refl)
    (λ x q _. ap (λ n. 1 - n) (done_after one new was (8 * at + s.from) (8 * at + s.cut) x head q))
