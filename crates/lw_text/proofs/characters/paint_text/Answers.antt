use Rattle.std.proofs.Common.{◌-◌, min, length, ◌∙◌, ap, arith, rules}
use Rattle.std.proofs.lemmas.Int.{clamps, ints}
use Rattle.lw_layer.specs.Drafts.{raster_of}
use Rattle.lw_text.proofs.TextLaws.{column_starts, row_starts, row_ends, columns_cut, rows_are, text_shape}
use Rattle.lw_text.proofs.characters.paint_text.Goals as goal

pub letter_rows-requires-clause-starts : goal.letter_rows-requires-clause-starts
letter_rows-requires-clause-starts c some =
    column_starts _ _ c.args.raster.x c.places-columns.result.from c.places-columns.result.end (omega (arith, ints, c.from-left.ensures))
    (c.places-columns.ensures.has c.places-columns.result.from (omega (arith, some, c.places-columns.ensures.inside))) some

pub letter_rows-requires-clause-upper : goal.letter_rows-requires-clause-upper
letter_rows-requires-clause-upper c some =
    row_starts _ _ c.args.raster.y c.places-rows.result.from c.places-rows.result.end (omega (arith, ints, c.from-top.ensures))
    (c.places-rows.ensures.has c.places-rows.result.from (omega (arith, some, c.places-rows.ensures.inside))) some

pub letter_rows-requires-clause-lower : goal.letter_rows-requires-clause-lower
letter_rows-requires-clause-lower c some =
    row_ends _ _ c.args.raster.y c.places-rows.result.from c.places-rows.result.end (c.places-rows.result.end - 1) (omega (arith, some)) (omega (arith, ints, c.from-top.ensures))
    (c.places-rows.ensures.has (c.places-rows.result.end - 1) (omega (arith, some, c.places-rows.ensures.inside))) some

pub returns : goal.returns
returns c =
    let v = c.args.layer.now in
    let columns = c.places-columns.result in
    let rows = c.places-rows.result in
    c.letter_rows.ensures ∙
    text_shape v c.args.glyphs.now c.args.text.now (raster_of c.args.raster) rows.from rows.end columns.from columns.end c.args.end c.width.ensures.bits.bitmap c.requires.raster
    (λ u inside.
    columns_cut _ _ c.args.raster.x (length c.args.text.now) c.min.result columns.from columns.end c.min-2.result v.layer.bits.width c.args.end u (search rules)
    (omega (arith, ints, c.from-left.ensures)) (omega (arith, ints, c.from-left.ensures, c.min.ensures, clamps)) c.min.ensures c.places-columns.ensures.inside
    (c.min-2.ensures ∙ ap (λ n. min n c.args.end) c.width.ensures.value) c.width.ensures.bits.sizes.columns.1 inside (c.places-columns.ensures.has u))
    (λ j inside. rows_are _ _ c.args.raster.y rows.from rows.end j (omega (arith, ints, c.from-top.ensures)) (omega (arith, ints, c.from-top.ensures)) (c.places-rows.ensures.has j (omega (arith, inside, c.height.ensures.value))))
