use Rattle.std.proofs.Common.{◌≡◌, ℕ, ◌+◌, ◌*◌, ◌<◌, ap, sym, ◌∙◌, arith}
use Rattle.lw_planes.specs.Pen.{pen_of}
use Rattle.lw_planes.specs.Row.{row_bit}
use Rattle.lw_planes.proofs.RowLaws.{row_bit_lt}
use Rattle.lw_c_desk.proofs.ColumnLaws.{word_of, eight_none, eight_more, eight_fit, eight_bytes, row_word}
use Rattle.lw_c_desk.proofs.columns.eight_pens.Goals as goal

pub loop-plane-init : goal.loop-plane-init
loop-plane-init c = sym (eight_none (λ j k. row_bit c.args.bytes.now (8 * (c.args.place + k * c.args.step) + j)))

pub overflow_add-pens : goal.overflow_add-pens
overflow_add-pens c =
    let bit : ℕ → ℕ → ℕ = λ j k. row_bit c.args.bytes.now (8 * (c.args.place + k * c.args.step) + j) in
    let low : c.loop-plane.plane < 8 = omega arith in
    let last = c.spread.ensures ∙ row_word c.args.bytes.now (c.args.place + c.loop-plane.plane * c.args.step) in
    let fit =
    eight_fit c.loop-plane.plane c.loop-plane.pens c.spread.result bit low (λ j k. row_bit_lt _ _) c.loop-plane.invariant last in
    omega (arith, fit)

pub loop-plane-preserved : goal.loop-plane-preserved
loop-plane-preserved c =
    let bit : ℕ → ℕ → ℕ = λ j k. row_bit c.args.bytes.now (8 * (c.args.place + k * c.args.step) + j) in
    let low : c.loop-plane.plane < 8 = omega arith in
    let last = c.spread.ensures ∙ row_word c.args.bytes.now (c.args.place + c.loop-plane.plane * c.args.step) in
    eight_more c.loop-plane.plane c.loop-plane.pens c.spread.result bit low (λ j k. row_bit_lt _ _) c.loop-plane.invariant last

pub returns : goal.returns
returns c =
    let bit : ℕ → ℕ → ℕ = λ j k. row_bit c.args.bytes.now (8 * (c.args.place + k * c.args.step) + j) in
    let end : c.loop-plane.plane ≡ c.args.depth = omega arith in
    c.to_be_bytes.ensures
    ∙ eight_bytes c.args.depth c.loop-plane.pens bit c.requires.deep (λ j k. row_bit_lt _ _)
    (c.loop-plane.invariant ∙ ap (λ n. word_of (λ j. pen_of n (bit j))) end)
