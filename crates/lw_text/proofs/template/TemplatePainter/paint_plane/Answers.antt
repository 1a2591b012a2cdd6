use Rattle.lw_layer.specs.Drafts.{raster_of}
use Rattle.lw_text.proofs.TemplateLaws.{plane_stamped}
use Rattle.lw_text.proofs.template.TemplatePainter.paint_plane.Goals as goal

pub returns : goal.returns
returns c =
    let t = c.args.self.now in
    plane_stamped c.args.layer.now c.combine_over.new.layer (raster_of t.raster) c.args.plane _ c.args.block t.bits.now t.overlay c.minterm_of-minterm.ensures c.combine_over.ensures
