use Rattle.std.proofs.Common.{ℕ, ◌+◌, ◌*◌, refl, arith}
use Rattle.lw_planes.specs.Row.{row_bit}
use Rattle.lw_kernels.specs.Kernel.{blit_bit}
use Rattle.lw_kernels.proofs.RowWriting.{Done, done_after, done_before, join_left, join_right, minterm_same}
use Rattle.lw_kernels.proofs.SpanLaws.{head_done, tail_done, middle_blit, parts}
use Rattle.lw_kernels.proofs.combining.combine_line.Goals as goal

pub returns : goal.returns
returns c =
    let s = c.args.span in
    let at : ℕ = c.args.at in
    let from : ℕ = 8 * at + s.from in
    let place : ℕ = 8 * c.args.start + c.args.place in
    let source = c.args.source.now in
    let minterm : ℕ = c.args.minterm in
    let old = c.args.to.now in
    let one = c.put_blit.new.bytes in
    let two = c.put_blit-2.new.bytes in
    let three = c.combine_bytes.new.to in
    let new : ℕ → ℕ = blit_bit minterm (row_bit source) place (row_bit old) from in
    let later : ℕ → ℕ = blit_bit minterm (row_bit source) place (row_bit one) from in
    let last : ℕ → ℕ = blit_bit minterm (row_bit source) place (row_bit two) from in
    let is = c.requires.span in
    let p = parts s is in
    let head : Done one new (λ x. row_bit old x) from (8 * at + s.cut) =
    head_done s at old one source minterm c.bits_from-head.result c.args.start c.args.place is c.bits_from-head.ensures c.put_blit.ensures in
    let tail : Done two later (λ x. row_bit one x) (8 * at + s.rest) (8 * at + s.end) =
    tail_done s at one two source minterm c.bits_from-tail.result c.args.start c.args.place is c.bits_from-tail.ensures c.put_blit-2.ensures in
    let middle : Done three last (λ x. row_bit two x) (8 * at + s.cut) (8 * at + s.rest) =
    middle_blit s at two three source minterm c.args.start c.args.place c.shift_of-shift.result c.args.way.whole is c.requires.way.whole c.shift_of-shift.ensures.is c.combine_bytes.ensures in
    join_right one three new new later (λ x. row_bit old x) from (8 * at + s.cut) (8 * at + s.end) (omega (arith, p.head)) (omega (arith, p.middle, p.tail)) head
    (join_left two three later later last (λ x. row_bit one x) (8 * at + s.cut) (8 * at + s.rest) (8 * at + s.end) (omega (arith, p.middle)) (omega (arith, p.tail)) tail middle (λ x _ _. refl)
    (λ x _ q. minterm_same minterm _ _ _ _ refl (done_before two later (λ x. row_bit one x) (8 * at + s.rest) (8 * at + s.end) x tail q)))
    (λ x _ _. refl)
    (λ x q _. minterm_same minterm _ _ _ _ refl (done_after one new (λ x. row_bit old x) from (8 * at + s.cut) x head q))
