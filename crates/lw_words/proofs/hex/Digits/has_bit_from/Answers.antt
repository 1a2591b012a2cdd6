use Rattle.std.proofs.Common.{◌==◌, ◌*◌, ◌≤◌, length, ◌∙◌, arith}
use Rattle.lw_planes.specs.Row.{row_bit}
use Rattle.lw_words.specs.Digits.{decoded}
use Rattle.std.proofs.lemmas.Bool.{ne_eqb}
use Rattle.lw_words.proofs.HexDigits.{half}
use Rattle.lw_words.proofs.BitsBehind.{passes_not}
use Rattle.lw_words.proofs.hex.Digits.has_bit_from.Goals as goal

pub overflow_mul-place-end : goal.overflow_mul-place-end
overflow_mul-place-end c =
    let h = half c.args.self.now.digits.now in
    let short : length c.args.self.now.digits.now ≤ 8192 = c.args.self.now.short in
    omega (arith, h, c.count-place-end.ensures)

pub loop-place-preserved : goal.loop-place-preserved
loop-place-preserved c =
    let bits = decoded c.args.self.now.digits.now in
    let i = c.loop-place.place in
    c.loop-place.invariant ∙ passes_not (λ x. row_bit bits x == 1) i (8 * length bits) (omega (arith, c.count-place-end.ensures)) (ne_eqb (row_bit bits i) 1 (λ e. c.if-bit-eq1.false (c.bit.ensures ∙ e)))
