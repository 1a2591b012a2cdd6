use Rattle.std.proofs.Common.{◌≡◌, ◌++◌, [], drop}
use Rattle.std.specs.List.{flat_map, slice_index_or}
use Rattle.lw_canonical.specs.Canonical.{enumerated, lines_of_bitmap}
use Rattle.lw_print.specs.Behind.{text_of_lines}
use Rattle.lw_print.proofs.bitmaps.push_bitmaps.Given as goal

abbrev pub invariant-loop-number : goal.invariant-loop-number
invariant-loop-number l =
    l.out.items ++ text_of_lines (flat_map (λ b. lines_of_bitmap (slice_index_or l.names b.0 []) b.1) (enumerated l.number (drop l.number l.bitmaps))) ≡ l.initial.out.items ++ text_of_lines (flat_map (λ b. lines_of_bitmap (slice_index_or l.names b.0 []) b.1) (enumerated 0 l.bitmaps))
