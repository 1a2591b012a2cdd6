use Rattle.std.proofs.Common.{◌∙◌, ap}
use Rattle.lw_draw.proofs.RastLaws.{rast_set, solid_of}
use Rattle.lw_draw.proofs.rast.set_rast.Goals as goal

pub returns : goal.returns
returns c =
    c.fill_rows.ensures ∙
    rast_set c.args.layer.now _ c.args.pen c.width.result c.height.result c.width.ensures.bits.bitmap (ap (λ r. solid_of r c.args.pen) c.raster.ensures.value) c.width.ensures.value c.height.ensures.value
