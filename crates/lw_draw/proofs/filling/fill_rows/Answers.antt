use Rattle.lw_layer.specs.Drafts.{raster_of}
use Rattle.lw_draw.proofs.PaintLaws.{paints_bits}
use Rattle.lw_draw.proofs.filling.fill_rows.Goals as goal

pub paint_rows-requires-clause-bits : goal.paint_rows-requires-clause-bits
paint_rows-requires-clause-bits c = paints_bits (raster_of c.args.raster)
