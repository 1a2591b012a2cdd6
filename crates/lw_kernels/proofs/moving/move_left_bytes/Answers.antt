use Rattle.std.proofs.Common.{◌≡◌, ℕ, ◌+◌, ◌-◌, ◌*◌, ◌<◌, ◌≤◌, length, get_or, ap, refl, ◌∙◌, arith}
use Rattle.std.specs.Int.{bit_at}
use Rattle.lw_planes.specs.Row.{row_bit}
use Rattle.lw_kernels.proofs.ByteLaws.{shifted_row}
use Rattle.lw_kernels.proofs.RowWriting.{before_none, before_more, before_all, before_old, whole_byte}
use Rattle.lw_kernels.proofs.moving.move_left_bytes.Goals as goal

pub loop-index-init : goal.loop-index-init
loop-index-init c = before_none c.args.row.now (λ x. row_bit c.args.row.now (8 * c.args.ahead + c.args.shift + x)) (8 * c.args.first) (8 * c.args.last) c.args.first (omega arith)

pub loop-index-preserved : goal.loop-index-preserved
loop-index-preserved c =
    let row = c.loop-index.row in
    let old : ℕ → ℕ = λ x. row_bit c.args.row.now x in
    let new : ℕ → ℕ = λ x. row_bit c.args.row.now (8 * c.args.ahead + c.args.shift + x) in
    let index : ℕ = c.loop-index.index in
    let at : ℕ = index + c.args.ahead in
    let inside : index < length row = omega arith in
    before_more row new old (8 * c.args.first) (8 * c.args.last) index c.shifted.result inside c.loop-index.invariant
    (λ j low.
    let place : 8 * at + c.args.shift + j ≡ 8 * c.args.ahead + c.args.shift + (8 * index + j) = omega arith in
    whole_byte c.args.first c.args.last index j (bit_at c.shifted.result (7 - j)) (new (8 * index + j)) (old (8 * index + j)) (omega arith) (omega arith) low
    (shifted_row row at (get_or row at 0) (get_or row (at + 1) 0) c.args.shift j (bit_at c.shifted.result (7 - j)) low refl refl (c.shifted.ensures j low) c.requires.low ∙
    (before_old row new old (8 * c.args.first) (8 * c.args.last) index (8 * at + c.args.shift + j) c.loop-index.invariant (omega arith) ∙ ap old place)))

pub returns : goal.returns
returns c =
    let late : 8 * c.args.last ≤ 8 * c.loop-index.index = omega arith in
    before_all c.loop-index.row (λ x. row_bit c.args.row.now (8 * c.args.ahead + c.args.shift + x)) (λ x. row_bit c.args.row.now x) (8 * c.args.first) (8 * c.args.last) c.loop-index.index late c.loop-index.invariant
