use Rattle.std.proofs.Common.{◌∙◌, ap, arith}
use Rattle.lw_machine.specs.Layer.{Raster}
use Rattle.lw_draw.specs.Drawn.{drawn}
use Rattle.lw_blit.specs.Blitting.{blit_by, from_layer, masked}
use Rattle.lw_blit.proofs.LoopLaws.{no_columns}
use Rattle.lw_blit.proofs.ShapeLaws.{area_near, layer_blitted, reached_by}
use Rattle.lw_blit.proofs.within_layer.within.Goals as goal

pub columns_of-columns-requires-clause-near : goal.columns_of-columns-requires-clause-near
columns_of-columns-requires-clause-near c = area_near c.args.area.now c.requires.fits

pub rows_of-rows-requires-clause-near : goal.rows_of-rows-requires-clause-near
rows_of-rows-requires-clause-near c = area_near c.args.area.now c.requires.fits

pub transfer_of-requires : goal.transfer_of-requires
transfer_of-requires c = area_near c.args.area.now c.requires.fits

pub returns-then-columns : goal.returns-then-columns
returns-then-columns c =
    let v = c.args.layer.now in
    let rows = c.rows_of-rows.result in
    let columns = c.columns_of-columns.result in
    c.transfer_rows.ensures ∙
    (ap (λ t. drawn (masked c.raster-mask.result.mask v rows.from rows.end columns.from columns.end) (from_layer v t) v) c.transfer_of.ensures.value ∙
    layer_blitted v v c.args.area.now _ rows.from rows.end columns.from columns.end c.width-2.ensures.bits.bitmap (ap (λ (r : Raster). r.mask) c.raster-mask.ensures.value)
    (reached_by c.args.area.now v.layer.bits.width v.layer.bits.height v.layer.bits.width v.layer.bits.height _ _ _ _ rows.from rows.end columns.from columns.end c.width.ensures.value c.height.ensures.value c.width-2.ensures.value c.height-2.ensures.value c.columns_of-columns.ensures.has c.rows_of-rows.ensures.has))

pub returns-else-columns : goal.returns-else-columns
returns-else-columns c =
    let v = c.args.layer.now in
    let rows = c.rows_of-rows.result in
    let columns = c.columns_of-columns.result in
    no_columns v c.raster-mask.result.mask rows.from rows.end columns.from columns.end (from_layer v (blit_by c.args.area.now)) c.width-2.ensures.bits.bitmap (omega arith) ∙
    layer_blitted v v c.args.area.now _ rows.from rows.end columns.from columns.end c.width-2.ensures.bits.bitmap (ap (λ (r : Raster). r.mask) c.raster-mask.ensures.value)
    (reached_by c.args.area.now v.layer.bits.width v.layer.bits.height v.layer.bits.width v.layer.bits.height _ _ _ _ rows.from rows.end columns.from columns.end c.width.ensures.value c.height.ensures.value c.width-2.ensures.value c.height-2.ensures.value c.columns_of-columns.ensures.has c.rows_of-rows.ensures.has)
