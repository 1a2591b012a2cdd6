use Rattle.std.proofs.Common.{◌≡◌, ◌+◌, ◌==◌, take, ◌∙◌, sym, ap, arith}
use Rattle.std.specs.List.{count_by, sum_by}
use Rattle.lw_top.proofs.PenCounts.{row_more, rows_whole}
use Rattle.lw_top.proofs.demo.pixels_with.Goals as goal

pub overflow_add-count : goal.overflow_add-count
overflow_add-count c =
    let few = c.loop-y.invariant.few in
    let more = c.pixels_in_row-count.ensures.few in
    let inside = c.loop-y-test.true in
    let high = c.height-y-end.ensures.value in
    let most = c.height-y-end.ensures.planes.sizes.rows.1 in
    omega (arith, few, more, inside, high, most)

pub loop-y-preserved : goal.loop-y-preserved
loop-y-preserved c =
    let inside = c.loop-y-test.true in
    let high = c.height-y-end.ensures.value in
    let few = c.loop-y.invariant.few in
    let more = c.pixels_in_row-count.ensures.few in
    let row = c.pixels_in_row-count.ensures.value in
    let step = row_more c.args.screen.now c.args.pen c.loop-y.y c.loop-y.invariant.planes.bitmap (omega (arith, inside, high)) in
    record {
      counted = (λ i. c.loop-y.invariant.counted i + row i) ∙ sym step;
      few = omega (arith, few, more);
      planes = c.loop-y.invariant.planes;
    }

pub returns : goal.returns
returns c =
    let last = c.loop-y-test.false in
    let within = c.loop-y.auto.y-end in
    let high = c.height-y-end.ensures.value in
    let all : c.loop-y.y ≡ c.args.screen.now.height = omega (arith, last, within, high) in
    c.loop-y.invariant.counted ∙ ap (λ n. sum_by (λ row. count_by (λ p. p == c.args.pen) row) (take n c.args.screen.now.rows)) all ∙ rows_whole c.args.screen.now c.args.pen c.loop-y.invariant.planes.bitmap
