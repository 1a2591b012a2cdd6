use Rattle.std.proofs.Common.{◌∙◌, ap, arith}
use Rattle.std.proofs.lemmas.Bool.{and_parts}
use Rattle.lw_kernels.specs.Kernel.{is_between}
use Rattle.lw_machine.specs.Layer.{Raster}
use Rattle.lw_layer.specs.View.{draws}
use Rattle.lw_blit.proofs.BitmapLaws.{reached_sources}
use Rattle.lw_blit.proofs.LoopLaws.{bitmap_gives_bits}
use Rattle.lw_blit.proofs.ShapeLaws.{area_near, bitmap_blitted, reached_by}
use Rattle.lw_blit.proofs.bitmaps.from_bitmap.Goals as goal

pub columns_of-columns-requires-clause-near : goal.columns_of-columns-requires-clause-near
columns_of-columns-requires-clause-near c = area_near c.args.area.now c.requires.fits

pub rows_of-rows-requires-clause-near : goal.rows_of-rows-requires-clause-near
rows_of-rows-requires-clause-near c = area_near c.args.area.now c.requires.fits

pub invariant_of-blit : goal.invariant_of-blit
invariant_of-blit c = record { near = area_near c.args.area.now c.requires.fits }

pub paint_rows-requires-clause-bits : goal.paint_rows-requires-clause-bits
paint_rows-requires-clause-bits c = bitmap_gives_bits c.args.bitmap.now c.args.area.now

pub paint_rows-requires-clause-reached : goal.paint_rows-requires-clause-reached
paint_rows-requires-clause-reached c i j on =
    let v = c.args.layer.now in
    let b = c.args.bitmap.now in
    let rows = c.rows_of-rows.result in
    let columns = c.columns_of-columns.result in
    let down = and_parts (is_between rows.from rows.end j) _ on in
    reached_sources b c.args.area.now v.layer.bits.width v.layer.bits.height rows.from rows.end columns.from columns.end
    (reached_by c.args.area.now b.width b.height v.layer.bits.width v.layer.bits.height _ _ _ _ rows.from rows.end columns.from columns.end c.width.ensures.value c.height.ensures.value c.width-2.ensures.value c.height-2.ensures.value c.columns_of-columns.ensures.has c.rows_of-rows.ensures.has)
    (omega (arith, c.columns_of-columns.ensures.inside, c.width-2.ensures.value)) (omega (arith, c.rows_of-rows.ensures.inside, c.height-2.ensures.value)) i j down.0 (and_parts (is_between columns.from columns.end i) (draws v i j) down.1).0

pub returns : goal.returns
returns c =
    let v = c.args.layer.now in
    let b = c.args.bitmap.now in
    let rows = c.rows_of-rows.result in
    let columns = c.columns_of-columns.result in
    c.paint_rows.ensures ∙
    bitmap_blitted v b c.args.area.now _ rows.from rows.end columns.from columns.end c.width-2.ensures.bits.bitmap (ap (λ (r : Raster). r.mask) c.raster-mask.ensures.value)
    (reached_by c.args.area.now b.width b.height v.layer.bits.width v.layer.bits.height _ _ _ _ rows.from rows.end columns.from columns.end c.width.ensures.value c.height.ensures.value c.width-2.ensures.value c.height-2.ensures.value c.columns_of-columns.ensures.has c.rows_of-rows.ensures.has)
