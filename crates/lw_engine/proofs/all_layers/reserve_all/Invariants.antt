use Rattle.std.proofs.Common.{ℕ, ◌<◌, take}
use Rattle.lw_calls.specs.Orders.{occurrences}
use Rattle.lw_layer.specs.Windows.{HasRoom}
use Rattle.lw_engine.specs.Desks.{cell_at, AreAsBefore}
use Rattle.lw_engine.proofs.all_layers.reserve_all.Given as goal

abbrev pub invariant-loop-slot : goal.invariant-loop-slot
invariant-loop-slot g l =
    AreAsBefore l.initial.slots l.slots
    × ((s : ℕ) → 0 < occurrences s (take l.slot-index l.order) → HasRoom 5 (cell_at l.slots s))
