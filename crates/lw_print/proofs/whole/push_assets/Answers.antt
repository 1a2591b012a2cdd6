use Rattle.std.proofs.lemmas.Result.{on_ok_weaker}
use Rattle.lw_calls.specs.Assets.{Assets}
use Rattle.lw_print.specs.Parts.{glyph_lines, bitmap_lines}
use Rattle.lw_print.proofs.ManyLines.{viewed_written}
use Rattle.lw_print.proofs.whole.push_assets.Goals as goal

pub returns : goal.returns
returns c =
    on_ok_weaker c.push_bitmaps.result
    (viewed_written (λ (s : Assets). glyph_lines s.glyphs) (λ (s : Assets). bitmap_lines c.args.names.now s.bitmaps) _ _ _ _ _ c.assets.view_is c.in_ok-push_glyphs.ensures)
    (rw c.as_slice.ensures.value at c.push_bitmaps.ensures)
