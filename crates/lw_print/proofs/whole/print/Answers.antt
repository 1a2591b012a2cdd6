use Rattle.std.specs.List.{flat_map, range_with_len}
use Rattle.std.proofs.Common.{pos}
use Rattle.lw_grammar.specs.Statements.{ScreenLine}
use Rattle.lw_canonical.specs.Canonical.{canonical_text, lines_of_version, lines_of_task}
use Rattle.lw_print.specs.Parts.{glyph_lines, bitmap_lines}
use Rattle.lw_print.proofs.ManyLines.{parts_written}
use Rattle.lw_print.proofs.whole.print.Goals as goal

pub returns : goal.returns
unfolding canonical_text
returns c =
    let plan = c.args.plan.now in
    parts_written (lines_of_version plan.sizes.version) (ScreenLine (pos plan.sizes.width) (pos plan.sizes.height) (pos plan.sizes.depth)) (glyph_lines plan.assets.glyphs) (bitmap_lines plan.bitmap_names plan.assets.bitmaps) (flat_map (lines_of_task plan) (range_with_len 0 plan.sizes.tasks)) _ _ _ _ _
    c.new-out.ensures.items c.in_ok-push_version.ensures c.in_ok-push_screen.ensures
    (rw (c.bitmap_names.ensures, c.assets.ensures) at c.in_ok-push_assets.ensures)
    c.in_ok-push_tasks.ensures
