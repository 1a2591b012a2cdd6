use Rattle.std.proofs.Common.{w32, ◌∙◌}
use Rattle.lw_layer.specs.Drafts.{raster_of}
use Rattle.lw_draw.proofs.PaintLaws.{paints_bits}
use Rattle.lw_draw.proofs.PixelLaws.{pixel_painted, pixel_left}
use Rattle.lw_draw.proofs.BlockLaws.{block_of_one}
use Rattle.lw_draw.proofs.pixels.write_pixel.Goals as goal
use Rattle.std.proofs.lemmas.Int.{to_z-of_z}

pub returns-in_default-clause-layer : goal.returns-in_default-clause-layer
returns-in_default-clause-layer c =
    pixel_left c.args.layer.now c.args.x c.args.y _ _ c.depth.ensures.bits.bitmap (to_z-of_z w32 c.args.x c.ranges.x) (to_z-of_z w32 c.args.y c.ranges.y) c.in_default.ensures

pub returns-clause-layer : goal.returns-clause-layer
returns-clause-layer c =
    c.paint_block.ensures ∙
    pixel_painted c.args.layer.now (raster_of c.raster-raster.result) c.args.x c.args.y _ _ c.in-Some.stretch c.depth.ensures.bits.bitmap c.raster-raster.ensures.value (to_z-of_z w32 c.args.x c.ranges.x) (to_z-of_z w32 c.args.y c.ranges.y) c.in-Some.ensures

pub paint_block-requires-clause-bits : goal.paint_block-requires-clause-bits
paint_block-requires-clause-bits c = paints_bits (raster_of c.raster-raster.result)

pub paint_block-requires-clause-block : goal.paint_block-requires-clause-block
paint_block-requires-clause-block c = block_of_one c.args.layer.now c.in-Some.stretch c.in-Some.ensures.run
