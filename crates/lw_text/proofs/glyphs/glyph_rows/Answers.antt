use Rattle.std.proofs.Common.{◌+◌, ◌∙◌, ap}
use Rattle.std.specs.List.{slice_index_or}
use Rattle.lw_text.specs.Templates.{glyph_bits}
use Rattle.lw_text.proofs.TextLaws.{glyph_put}
use Rattle.lw_text.proofs.glyphs.glyph_rows.Goals as goal

pub loop-place-preserved : goal.loop-place-preserved
loop-place-preserved c =
    glyph_put c.loop-place.bytes c.put_glyph.new.bytes c.glyph_of-glyph.result (λ k n. glyph_bits c.args.glyphs.now (slice_index_or c.args.text.now (c.args.first + n) 0) k) c.loop-place.place c.loop-place.invariant c.put_glyph.ensures.each c.put_glyph.ensures.before
    (λ k low. c.glyph_of-glyph.ensures k low ∙ ap (λ code. glyph_bits c.args.glyphs.now code k) c.code_at.ensures)
