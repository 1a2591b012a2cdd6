use Rattle.std.proofs.Common.{◌≡◌, map}
use Rattle.std.specs.List.{range_with_len}
use Rattle.lw_engine.specs.Desks.{unopened_cell}
use Rattle.lw_engine.proofs.opening.unopened_slots.Given as goal

abbrev pub invariant-loop-slot : goal.invariant-loop-slot
invariant-loop-slot g l = l.slots.items ≡ map unopened_cell (range_with_len 0 l.slot)
