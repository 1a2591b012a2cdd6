use Rattle.std.proofs.Common.{◌≡◌, ℤ, pos, to_z, of_z, w16, ◌∙◌, ap, arith, rules}
use Rattle.std.specs.Int.{int_min, int_max}
use Rattle.lw_machine.specs.Layer.{Raster}
use Rattle.lw_layer.specs.Drafts.{raster_of}
use Rattle.lw_draw.specs.declared.row_spans.Line.{Line}
use Rattle.lw_draw.proofs.DrawnLines.{line_done}
use Rattle.lw_draw.proofs.RectangleLaws.{within_same}
use Rattle.lw_draw.proofs.lines.line.Goals as goal

-- an i16 that is handed on
abbrev handed : ℤ → ℤ
handed z = to_z w16 (of_z w16 z)

pub returns : goal.returns
returns c =
    let r = c.raster-raster.result in
    let x0 : handed r.x ≡ r.x = search rules in
    let y0 : handed r.y ≡ r.y = search rules in
    let x1 : handed c.args.x ≡ c.args.x = search rules in
    let y1 : handed c.args.y ≡ c.args.y = search rules in
    let line : Line = record { x0 = handed r.x; y0 = handed r.y; x1 = handed c.args.x; y1 = handed c.args.y } in
    let least : handed c.min.result ≡ c.min.result = search rules in
    let greatest : handed c.max.result ≡ c.max.result = search rules in
    let low : handed c.min.result ≡ int_min (handed r.y) (handed c.args.y) = least ∙ c.min.ensures.value in
    let high : handed c.max.result ≡ int_max (handed r.y) (handed c.args.y) = greatest ∙ c.max.ensures.value in
    line_done c.args.layer.now c.line_rows.new.layer c.set_raster.new.self (raster_of r) _ line c.args.x c.args.y c.span-rows.result.from c.span-rows.result.end c.height.ensures.bits.bitmap c.raster-raster.ensures.value
    (λ j inside. within_same _ _ _ _ (pos j) low high ∙ c.span-rows.ensures.has j (omega (arith, inside, c.height.ensures.value)))
    c.line_rows.ensures c.set_raster.ensures x0 y0 x1 y1
    (let ends : ℤ → ℤ → Raster = λ u v. record (raster_of r) { cursor_x = u; cursor_y = v } in ap (λ u. ends u (handed c.args.y)) x1 ∙ ap (λ v. ends c.args.x v) y1)
