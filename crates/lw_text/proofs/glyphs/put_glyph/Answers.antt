use Rattle.std.proofs.Common.{◌∙◌, refl, arith}
use Rattle.lw_text.proofs.TextLaws.{byte_put, left_stays}
use Rattle.lw_text.proofs.glyphs.put_glyph.Goals as goal

pub loop-row-init : goal.loop-row-init
loop-row-init c = record { each = λ k low. absurd (omega (arith, low)); before = λ k n low. refl }

pub loop-row-preserved : goal.loop-row-preserved
loop-row-preserved c =
    let bytes = c.loop-row.bytes in
    let at = c.args.at in
    let row = c.loop-row.row in
    let put = c.loop-row.invariant in
    record {
      each = byte_put bytes c.args.glyph at row _ (omega arith) refl put.each;
      before = λ k n low. left_stays bytes at row _ k n c.requires.inside low ∙ put.before k n low;
    }
