use Rattle.std.proofs.Common.{ℕ, ◌+◌, ◌*◌, ◌≤◌, refl, arith}
use Rattle.lw_planes.specs.Row.{row_bit}
use Rattle.lw_kernels.specs.Kernel.{blit_bit}
use Rattle.lw_kernels.proofs.RowWriting.{Done, done_after, done_before, join_left, join_right, minterm_same}
use Rattle.lw_kernels.proofs.SpanLaws.{head_done, tail_done, middle_blit, parts}
use Rattle.lw_kernels.proofs.within.line_within.Goals as goal

pub returns : goal.returns
returns c =
    let s = c.args.span in
    let at : ℕ = c.args.at in
    let from : ℕ = 8 * at + s.from in
    let cut : ℕ = 8 * at + s.cut in
    let rest : ℕ = 8 * at + s.rest in
    let end : ℕ = 8 * at + s.end in
    let place : ℕ = 8 * c.args.source + c.args.place in
    let minterm : ℕ = c.args.minterm in
    let old = c.args.bytes.now in
    let was : ℕ → ℕ = λ x. row_bit old x in
    let new : ℕ → ℕ = blit_bit minterm (row_bit old) place (row_bit old) from in
    let is = c.requires.span in
    let p = parts s is in
    let begins : from ≤ cut = omega (arith, p.head) in
    let order : cut ≤ rest = omega (arith, p.middle) in
    let ends : rest ≤ end = omega (arith, p.tail) in
    let one = c.within_bytes.new.row in
    let two = c.put_blit.new.bytes in
    let middle : Done one new was cut rest =
    middle_blit s at old one old minterm c.args.source c.args.place c.shift_of-shift.result c.args.way.whole is c.requires.way.whole c.shift_of-shift.ensures.is c.within_bytes.ensures in
    let both : Done two new was from rest =
    join_left one two new new (blit_bit minterm (row_bit old) place (row_bit one) from) was from cut rest begins order middle
    (head_done s at one two old minterm c.bits_from-head.result c.args.source c.args.place is c.bits_from-head.ensures c.put_blit.ensures)
    (λ x _ _. refl)
    (λ x _ low. minterm_same minterm _ _ _ _ refl (done_before one new was cut rest x middle low))
    in
    join_right two c.put_blit-2.new.bytes new new (blit_bit minterm (row_bit old) place (row_bit two) from) was from rest end (omega (arith, begins, order)) ends both
    (tail_done s at two c.put_blit-2.new.bytes old minterm c.bits_from-tail.result c.args.source c.args.place is c.bits_from-tail.ensures c.put_blit-2.ensures)
    (λ x _ _. refl)
    (λ x q _. minterm_same minterm _ _ _ _ refl (done_after two new was from rest x both q))
