use Rattle.std.proofs.Common.{◌≡◌, ◌+◌, ◌++◌, []}
use Rattle.std.specs.List.{flat_map, range_with_len, slice_index_or}
use Rattle.lw_canonical.specs.Canonical.{lines_of_glyph}
use Rattle.lw_print.specs.Behind.{text_of_lines}
use Rattle.lw_print.proofs.glyphs.push_glyphs.Given as goal

abbrev pub invariant-loop-index : goal.invariant-loop-index
invariant-loop-index l =
    l.out.items ≡ l.initial.out.items ++ flat_map (λ i. text_of_lines (lines_of_glyph (32 + i) (slice_index_or l.glyphs i []))) (range_with_len 0 l.index)
