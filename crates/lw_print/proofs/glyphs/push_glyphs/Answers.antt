use Rattle.std.proofs.Common.{◌≡◌, ◌+◌, [], refl, arith}
use Rattle.std.specs.List.{slice_index_or}
use Rattle.lw_canonical.specs.Spelling.{spelled}
use Rattle.lw_canonical.specs.Canonical.{lines_of_glyph}
use Rattle.lw_text_output.proofs.Pieces.{piece_written}
use Rattle.lw_print.specs.Behind.{text_of_lines}
use Rattle.lw_print.proofs.ManyLines.{pieces_text}
use Rattle.lw_print.proofs.glyphs.push_glyphs.Goals as goal

pub loop-index-preserved : goal.loop-index-preserved
loop-index-preserved c =
    piece_written (λ i. text_of_lines (lines_of_glyph (32 + i) (slice_index_or c.args.glyphs.now i []))) _ _ _ _ c.loop-index.index
    c.loop-index.invariant c.in_ok-push_glyph.ensures refl

pub returns : goal.returns
returns c =
    let end : c.loop-index.index ≡ 95 = omega (arith, c.loop-index-test.false, c.loop-index.auto.index-end) in
    pieces_text spelled (λ i. lines_of_glyph (32 + i) (slice_index_or c.args.glyphs.now i [])) _ 95 _ _ end c.loop-index.invariant
