use Rattle.std.proofs.Common.{◌≡◌, pos, to_z, w32, sym, ◌∙◌, ap, arith}
use Rattle.std.proofs.lemmas.Int.{ints}
use Rattle.lw_machine.specs.Shapes.{is_on_line}
use Rattle.lw_layer.specs.Drafts.{raster_of}
use Rattle.lw_draw.proofs.DrawnLines.{line_row_painted}
use Rattle.lw_draw.proofs.PaintLaws.{paints_bits}
use Rattle.lw_draw.proofs.lines.line_row.Goals as goal

pub returns : goal.returns
returns c =
    let v = c.args.layer.now in
    let l = c.args.line in
    let columns = c.within_extent-columns.result in
    let row : to_z w32 c.args.y ≡ pos c.args.y = omega (arith, ints) in
    c.paint_row.ensures ∙
    line_row_painted v (raster_of c.args.raster) l c.args.y columns.from columns.end
    (λ i inside. ap (λ z. is_on_line l.x0 l.y0 l.x1 l.y1 (pos i) z) (sym row) ∙ (c.row_span.ensures (pos i) ∙ c.within_extent-columns.ensures.has i (omega (arith, inside, c.width.ensures.value))))

pub paint_row-requires-clause-bits : goal.paint_row-requires-clause-bits
paint_row-requires-clause-bits c = paints_bits (raster_of c.args.raster)
