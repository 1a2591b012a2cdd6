use Rattle.std.proofs.Common.{◌≡◌, ◌+◌, ◌==◌, cond, take, ◌∙◌, sym, ap, arith}
use Rattle.std.specs.List.{count_by}
use Rattle.lw_planes.specs.Bitmap.{row_at}
use Rattle.lw_top.proofs.PenCounts.{pixel_more, row_whole}
use Rattle.lw_top.proofs.demo.pixels_in_row.Goals as goal

pub overflow_add-count : goal.overflow_add-count
overflow_add-count c =
    let few = c.loop-x.invariant.few in
    let one = c.one_if-count.ensures.few in
    let inside = c.loop-x-test.true in
    let wide = c.width-x-end.ensures.value in
    let most = c.width-x-end.ensures.planes.sizes.columns.1 in
    omega (arith, few, one, inside, wide, most)

pub loop-x-preserved : goal.loop-x-preserved
loop-x-preserved c =
    let inside = c.loop-x-test.true in
    let wide = c.width-x-end.ensures.value in
    let few = c.loop-x.invariant.few in
    let least = c.one_if-count.ensures.few in
    let one = c.one_if-count.ensures.value ∙ ap (λ p. cond (p == c.args.pen) 1 0) c.pen.ensures.value in
    let step = pixel_more c.args.screen.now c.args.pen c.loop-x.x c.args.y c.loop-x.invariant.planes.bitmap (omega (arith, inside, wide)) c.requires in
    record {
      counted = (λ i. c.loop-x.invariant.counted i + one i) ∙ sym step;
      few = omega (arith, few, least);
      planes = c.loop-x.invariant.planes;
    }

pub returns-clause-value : goal.returns-clause-value
returns-clause-value c =
    let last = c.loop-x-test.false in
    let within = c.loop-x.auto.x-end in
    let wide = c.width-x-end.ensures.value in
    let all : c.loop-x.x ≡ c.args.screen.now.width = omega (arith, last, within, wide) in
    c.loop-x.invariant.counted ∙ ap (λ n. count_by (λ p. p == c.args.pen) (take n (row_at c.args.screen.now c.args.y))) all ∙ row_whole c.args.screen.now c.args.pen c.args.y c.loop-x.invariant.planes.bitmap c.requires

pub returns-clause-few : goal.returns-clause-few
returns-clause-few c =
    let few = c.loop-x.invariant.few in
    let within = c.loop-x.auto.x-end in
    let wide = c.width-x-end.ensures.value in
    let most = c.width-x-end.ensures.planes.sizes.columns.1 in
    omega (arith, few, within, wide, most)
