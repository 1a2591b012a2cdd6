use Rattle.std.proofs.Common.{◌∙◌, ap, arith}
use Rattle.lw_machine.specs.Layer.{Raster}
use Rattle.lw_blit.proofs.BetweenLaws.{no_column_taken}
use Rattle.lw_blit.proofs.BitmapLaws.{reached_sources}
use Rattle.lw_blit.proofs.ShapeLaws.{area_near, kept_blitted, reached_by}
use Rattle.lw_blit.proofs.between_layers.between.Goals as goal

pub columns_of-columns-requires-clause-near : goal.columns_of-columns-requires-clause-near
columns_of-columns-requires-clause-near c = area_near c.args.area.now c.requires.fits

pub rows_of-rows-requires-clause-near : goal.rows_of-rows-requires-clause-near
rows_of-rows-requires-clause-near c = area_near c.args.area.now c.requires.fits

pub between_rows-requires-clause-near : goal.between_rows-requires-clause-near
between_rows-requires-clause-near c = area_near c.args.area.now c.requires.fits

pub between_rows-requires-clause-sources : goal.between_rows-requires-clause-sources
between_rows-requires-clause-sources c i j row column =
    let v = c.args.to.now in
    let u = c.args.source.now in
    let rows = c.rows_of-rows.result in
    let columns = c.columns_of-columns.result in
    reached_sources u.layer.bits c.args.area.now v.layer.bits.width v.layer.bits.height rows.from rows.end columns.from columns.end
    (reached_by c.args.area.now u.layer.bits.width u.layer.bits.height v.layer.bits.width v.layer.bits.height _ _ _ _ rows.from rows.end columns.from columns.end c.width.ensures.value c.height.ensures.value c.width-2.ensures.value c.height-2.ensures.value c.columns_of-columns.ensures.has c.rows_of-rows.ensures.has)
    (omega (arith, c.columns_of-columns.ensures.inside, c.width-2.ensures.value)) (omega (arith, c.rows_of-rows.ensures.inside, c.height-2.ensures.value)) i j row column

pub returns-then-columns : goal.returns-then-columns
returns-then-columns c =
    let v = c.args.to.now in
    let u = c.args.source.now in
    let rows = c.rows_of-rows.result in
    let columns = c.columns_of-columns.result in
    c.between_rows.ensures ∙
    kept_blitted v u c.args.area.now _ rows.from rows.end columns.from columns.end c.width-2.ensures.bits.bitmap (ap (λ (r : Raster). r.mask) c.raster-mask.ensures.value)
    (reached_by c.args.area.now u.layer.bits.width u.layer.bits.height v.layer.bits.width v.layer.bits.height _ _ _ _ rows.from rows.end columns.from columns.end c.width.ensures.value c.height.ensures.value c.width-2.ensures.value c.height-2.ensures.value c.columns_of-columns.ensures.has c.rows_of-rows.ensures.has)

pub returns-else-columns : goal.returns-else-columns
returns-else-columns c =
    let v = c.args.to.now in
    let u = c.args.source.now in
    let rows = c.rows_of-rows.result in
    let columns = c.columns_of-columns.result in
    no_column_taken v u c.args.area.now c.raster-mask.result.mask rows.from rows.end columns.from columns.end c.width-2.ensures.bits.bitmap (omega arith) ∙
    kept_blitted v u c.args.area.now _ rows.from rows.end columns.from columns.end c.width-2.ensures.bits.bitmap (ap (λ (r : Raster). r.mask) c.raster-mask.ensures.value)
    (reached_by c.args.area.now u.layer.bits.width u.layer.bits.height v.layer.bits.width v.layer.bits.height _ _ _ _ rows.from rows.end columns.from columns.end c.width.ensures.value c.height.ensures.value c.width-2.ensures.value c.height-2.ensures.value c.columns_of-columns.ensures.has c.rows_of-rows.ensures.has)
