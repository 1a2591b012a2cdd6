use Rattle.std.proofs.Common.{arith}
use Rattle.lw_layer.specs.Drafts.{raster_of}
use Rattle.lw_frames.proofs.FillLaws.{no_fills, fill_more, fills_done}
use Rattle.lw_frames.proofs.painting.paint_fills.Goals as goal

pub loop-rect-init : goal.loop-rect-init
loop-rect-init c = no_fills c.args.layer.now c.set_raster.new.self c.args.pen (raster_of c.solid.result) c.depth.ensures.bits.bitmap c.solid.ensures.value c.set_raster.ensures

pub loop-rect-preserved : goal.loop-rect-preserved
loop-rect-preserved c =
    fill_more c.args.layer.now c.loop-rect.layer c.fill.new.layer c.args.fills.now c.loop-rect.rect-index c.rect-item.result c.args.pen c.depth.ensures.bits.bitmap c.depth.ensures.bits.sizes.planes.1 c.requires.unclipped c.requires.idle c.loop-rect-test.true c.rect-item.is c.loop-rect.invariant c.fill.ensures

pub returns : goal.returns
returns c = fills_done c.args.layer.now c.loop-rect.layer c.args.fills.now c.loop-rect.rect-index c.args.pen (omega (arith, c.loop-rect-test.false)) c.loop-rect.invariant
