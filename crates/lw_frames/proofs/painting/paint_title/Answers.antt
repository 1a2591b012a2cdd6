use Rattle.std.proofs.Common.{◌-◌, ap}
use Rattle.lw_layer.specs.Drafts.{raster_of}
use Rattle.lw_frames.proofs.TitleLaws.{title_laid}
use Rattle.lw_frames.proofs.painting.paint_title.Goals as goal

pub returns : goal.returns
returns c =
    title_laid c.args.layer.now c.set_raster.new.self c.letters_before.new.layer c.args.assets.now.glyphs c.args.title.now _ c.args.letters (raster_of c.solid.result) c.width-end.ensures.bits.bitmap c.width-end.ensures.bits.sizes.planes.1 c.requires.unclipped c.requires.idle (ap (λ n. n - 4) c.width-end.ensures.value) c.solid.ensures.value c.set_raster.ensures c.letters_before.ensures
