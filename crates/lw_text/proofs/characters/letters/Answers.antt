use Rattle.std.proofs.Common.{◌≡◌, ◌*◌, length, ℤ, pos, ◌+ℤ◌, ◌≤ℤ◌, int_le, to_z, of_z, w16, ◌∙◌, ap, arith, rules}
use Rattle.std.proofs.lemmas.Int.{ints}
use Rattle.lw_calls.specs.Assets.{Assets}
use Rattle.lw_machine.specs.Layer.{Raster}
use Rattle.lw_layer.specs.Drafts.{raster_of}
use Rattle.lw_text.proofs.TextLaws.{text_done, room}
use Rattle.lw_text.proofs.characters.letters.Goals as goal

pub returns-clause-layer : goal.returns-clause-layer
returns-clause-layer c =
    let r = c.raster-raster.result in
    let codes = c.bytes-text.result.now in
    let x : to_z w16 (of_z w16 r.x) ≡ r.x = search rules in
    let y : to_z w16 (of_z w16 r.y) ≡ r.y = search rules in
    let fits : (r.x +ℤ pos (8 * length codes)) ≤ℤ pos 32767 = room r.x (8 * length codes) c.fits.result (c.fits.ensures ∙ ap (λ z. int_le (z +ℤ pos (8 * length codes)) (pos 32767)) x) (search rules) in
    let from : c.from.result ≡ r.x = c.from.ensures ∙ x in
    let behind : ℤ → ℤ → Raster = λ u v. record (raster_of r) { cursor_x = u; cursor_y = v } in
    text_done c.args.layer.now c.paint_text.new.layer c.set_raster.new.self c.args.assets.now.glyphs _ c.args.text.now codes c.width.result (raster_of r) _
    (ap (λ (a : Assets). a.glyphs) c.assets.view_is) c.bytes-text.ensures c.width.ensures.value c.raster-raster.ensures.value c.paint_text.ensures c.set_raster.ensures
    (ap (λ u. behind u (to_z w16 (of_z w16 r.y))) (omega (arith, ints)) ∙ ap (λ v. behind (r.x +ℤ pos (8 * length codes)) v) y)
