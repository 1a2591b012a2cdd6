use Rattle.std.proofs.Common.{arith}
use Rattle.lw_hook_fill.proofs.RectangleLaws.{no_rectangles, rectangle_more, rectangles_done}
use Rattle.lw_hook_fill.proofs.rectangles.paint_rects.Goals as goal

pub loop-rect-init : goal.loop-rect-init
loop-rect-init c = no_rectangles c.args.layer.now c.args.tile.now c.depth.ensures.bits.bitmap

pub loop-rect-preserved : goal.loop-rect-preserved
loop-rect-preserved c =
    rectangle_more c.args.layer.now c.loop-rect.layer c.paint_rect.new.layer c.args.rects.now c.loop-rect.rect-index c.rect-item.result c.args.tile.now c.loop-rect-test.true c.rect-item.is c.loop-rect.invariant c.paint_rect.ensures

pub returns : goal.returns
returns c = rectangles_done c.args.layer.now c.loop-rect.layer c.args.rects.now c.loop-rect.rect-index c.args.tile.now (omega (arith, c.loop-rect-test.false)) c.loop-rect.invariant
