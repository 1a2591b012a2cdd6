use Rattle.std.proofs.Common.{ℤ, to_z, of_z, w32, subst, arith}
use Rattle.std.proofs.lemmas.Int.{to_z-of_z}
use Rattle.lw_layer.specs.Code.{AreRowsAlike}
use Rattle.lw_layer.proofs.AlikeLaws.{none_apart, rect_more, rects_done}
use Rattle.lw_layer.proofs.alike.rows_by.Goals as goal

pub loop-rect-init : goal.loop-rect-init
loop-rect-init c = none_apart (to_z w32 (of_z w32 c.args.row)) c.args.most c.requires

pub loop-rect-preserved : goal.loop-rect-preserved
loop-rect-preserved c =
    rect_more c.args.rects.now c.loop-rect.rect-index c.rect-item.result (to_z w32 (of_z w32 c.args.row)) c.args.most c.loop-rect.rows c.rect_rows.result c.min-rows.result c.loop-rect-test.true c.rect-item.is c.min-rows.ensures c.rect_rows.ensures.some c.rect_rows.ensures.alike c.loop-rect.invariant

pub returns : goal.returns
returns c =
    let P : ℤ → Type 0 = λ z. AreRowsAlike c.args.rects.now z c.args.most c.loop-rect.rows in
    subst P (to_z-of_z w32 c.args.row c.ranges.row) (rects_done c.args.rects.now c.loop-rect.rect-index (to_z w32 (of_z w32 c.args.row)) c.args.most c.loop-rect.rows (omega (arith, c.loop-rect-test.false)) c.loop-rect.invariant)
