use Rattle.std.proofs.Common.{◌≡◌, ◌%◌, ℤ, pos, ◌-ℤ◌, ◌≤ℤ◌, to_z, of_z, w16, subst, arith, rules}
use Rattle.lw_layer.specs.Drafts.{raster_of}
use Rattle.lw_layer.specs.View.{draws}
use Rattle.lw_text.proofs.TemplateLaws.{stamps_bits}
use Rattle.lw_text.proofs.TextLaws.{rows_low, rows_over, cells_of, rows_are_text}
use Rattle.lw_text.proofs.characters.letter_rows.Goals as goal

pub align_rows-requires-clause-low : goal.align_rows-requires-clause-low
align_rows-requires-clause-low c =
    let r = c.args.raster in
    rows_low r.y c.args.rows.from c.args.rows.end c.row_in_cells.result (cells_of _ r.y c.args.rows.from c.args.rows.end _ (search rules) c.requires.upper c.requires.lower c.row_in_cells.ensures.value) c.row_in_cells.ensures.inside

pub paint_rows-requires-clause-bits : goal.paint_rows-requires-clause-bits
paint_rows-requires-clause-bits c = stamps_bits (raster_of c.args.raster) _

pub paint_rows-requires-clause-reached : goal.paint_rows-requires-clause-reached
paint_rows-requires-clause-reached c i j on =
    let r = c.args.raster in
    let rows = c.args.rows in
    let columns = c.args.columns in
    rows_over r.y (draws c.args.layer.now i j) rows.from rows.end columns.from columns.end (columns.from % 8) c.row_in_cells.result _ i j
    (cells_of _ r.y rows.from rows.end _ (search rules) c.requires.upper c.requires.lower c.row_in_cells.ensures.value) (omega arith) c.requires.right (search rules) on

pub returns : goal.returns
returns c =
    let r = c.args.raster in
    let from = c.args.columns.from in
    let before = c.columns_before-before.result in
    let x : to_z w16 (of_z w16 r.x) ≡ r.x = search rules in
    let Across : ℤ → Type 0 = λ z. z ≤ℤ pos from → pos from -ℤ z ≡ pos before in
    rows_are_text c.args.layer.now c.paint_rows.new.layer (raster_of r) c.args.glyphs.now c.args.text.now c.glyph_rows.new.bytes c.align_rows.new.bytes c.args.rows.from c.args.rows.end from c.args.columns.end before c.div_ceil-count.result c.row_in_cells.result (from % 8)
    c.align_rows.ensures.bits
    (cells_of _ r.y c.args.rows.from c.args.rows.end _ (search rules) c.requires.upper c.requires.lower c.row_in_cells.ensures.value)
    (record {
      enough = omega (arith, c.div_ceil-count.ensures);
      starts = c.requires.starts;
      across = subst Across x c.columns_before-before.ensures.value;
      each = c.glyph_rows.ensures.each;
    })
    c.paint_rows.ensures
