use Rattle.std.proofs.Common.{◌≡◌, ℕ, ◌+◌, ◌-◌, ◌*◌, ◌<◌, ◌≤◌, length, get_or, ap, refl, ◌∙◌, arith}
use Rattle.std.specs.Int.{bit_at}
use Rattle.lw_planes.specs.Row.{row_bit}
use Rattle.lw_kernels.proofs.ByteLaws.{shifted_row}
use Rattle.lw_kernels.proofs.RowWriting.{from_none, from_more, from_all, from_old, whole_byte}
use Rattle.lw_kernels.proofs.moving.move_right_bytes.Goals as goal

pub loop-index-init : goal.loop-index-init
loop-index-init c = from_none c.args.row.now (λ x. row_bit c.args.row.now (x - 8 * c.args.behind + c.args.shift)) (8 * c.args.first) (8 * c.args.last) _ (omega arith)

pub loop-index-preserved : goal.loop-index-preserved
loop-index-preserved c =
    let row = c.loop-index.row in
    let old : ℕ → ℕ = λ x. row_bit c.args.row.now x in
    let new : ℕ → ℕ = λ x. row_bit c.args.row.now (x - 8 * c.args.behind + c.args.shift) in
    let next : ℕ = c.loop-index.index in
    let index : ℕ = c.loop-index.index - 1 in
    let at : ℕ = index - c.args.behind in
    let inside : index < length row = omega arith in
    let is_next : next ≡ index + 1 = omega arith in
    from_more row new old (8 * c.args.first) (8 * c.args.last) index next c.shifted.result inside is_next c.loop-index.invariant
    (λ j low.
    let place : 8 * at + c.args.shift + j ≡ 8 * index + j - 8 * c.args.behind + c.args.shift = omega arith in
    whole_byte c.args.first c.args.last index j (bit_at c.shifted.result (7 - j)) (new (8 * index + j)) (old (8 * index + j)) (omega arith) (omega arith) low
    (shifted_row row at (get_or row at 0) (get_or row (at + 1) 0) c.args.shift j (bit_at c.shifted.result (7 - j)) low refl refl (c.shifted.ensures j low) c.requires.low ∙
    (from_old row new old (8 * c.args.first) (8 * c.args.last) next (8 * at + c.args.shift + j) c.loop-index.invariant (omega arith) ∙ ap old place)))

pub returns : goal.returns
returns c =
    let early : 8 * c.loop-index.index ≤ 8 * c.args.first = omega arith in
    from_all c.loop-index.row (λ x. row_bit c.args.row.now (x - 8 * c.args.behind + c.args.shift)) (λ x. row_bit c.args.row.now x) (8 * c.args.first) (8 * c.args.last) c.loop-index.index early c.loop-index.invariant
