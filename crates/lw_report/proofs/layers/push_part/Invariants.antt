use Rattle.std.proofs.Common.{◌≡◌, ◌++◌, [], None}
use Rattle.std.specs.List.{flat_map, range_with_len, slice_index_or}
use Rattle.lw_machine.specs.Report.{of_seen}
use Rattle.lw_report.specs.Words.{part_text}
use Rattle.lw_report.proofs.layers.push_part.Given as goal

abbrev pub invariant-loop-slot : goal.invariant-loop-slot
invariant-loop-slot l =
    l.out.items ≡ l.initial.out.items ++ flat_map (λ s. of_seen (part_text l.part (slice_index_or l.names s [])) (slice_index_or l.slots s None)) (range_with_len 0 l.slot)
