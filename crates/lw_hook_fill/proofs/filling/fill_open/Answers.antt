use Rattle.std.proofs.Common.{◌∙◌, ap}
use Rattle.lw_hook_fill.specs.Filling.{filled}
use Rattle.lw_hook_fill.proofs.FillingLaws.{kept_filled}
use Rattle.lw_hook_fill.proofs.filling.fill_open.Goals as goal

pub returns : goal.returns
returns g c =
    let v = c.args.layer.now in
    let h = g.B.Backfill.hook c.args.held.now in
    c.paint_rects.ensures ∙
    (kept_filled v h c.tile_bits.result c.rects.result.now c.depth.ensures.bits.bitmap c.depth.ensures.bits.sizes.planes.1 c.requires.unclipped c.requires.idle c.tile_bits.ensures ∙
    ap (λ rs. filled h rs v) c.rects.ensures.value)
