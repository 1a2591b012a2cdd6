use Rattle.std.proofs.Common.{◌≡◌, pos, to_z, of_z, w16, ◌∙◌, arith}
use Rattle.std.proofs.lemmas.Int.{ints}
use Rattle.lw_draw.proofs.RectangleLaws.{within_same}
use Rattle.lw_hook_fill.proofs.PaintingLaws.{tile_gives_bits}
use Rattle.lw_hook_fill.proofs.RectangleLaws.{rectangle_painted}
use Rattle.lw_hook_fill.proofs.rectangles.paint_rect.Goals as goal

pub paint_rows-requires-clause-bits : goal.paint_rows-requires-clause-bits
paint_rows-requires-clause-bits c = tile_gives_bits c.args.tile.now

pub returns : goal.returns
returns c =
    let v = c.args.layer.now in
    let rect = c.args.rect.now in
    let columns = c.span-columns.result in
    let rows = c.span-rows.result in
    let left : to_z w16 (of_z w16 c.min_x.result) ≡ rect.min_x = omega (arith, ints) in
    let right : to_z w16 (of_z w16 c.max_x.result) ≡ rect.max_x = omega (arith, ints) in
    let top : to_z w16 (of_z w16 c.min_y.result) ≡ rect.min_y = omega (arith, ints) in
    let bottom : to_z w16 (of_z w16 c.max_y.result) ≡ rect.max_y = omega (arith, ints) in
    c.paint_rows.ensures ∙
    rectangle_painted v rect c.args.tile.now rows.from rows.end columns.from columns.end
    (λ i inside. within_same _ _ _ _ (pos i) left right ∙ c.span-columns.ensures.has i (omega (arith, inside, c.width.ensures.value)))
    (λ j inside. within_same _ _ _ _ (pos j) top bottom ∙ c.span-rows.ensures.has j (omega (arith, inside, c.height.ensures.value)))
