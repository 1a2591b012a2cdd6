use Rattle.std.proofs.Common.{take, ◌++◌}
use Rattle.std.specs.List.{filter}
use Rattle.lw_engine.specs.Arranging.{AreMade, is_idle}
use Rattle.lw_engine.proofs.all_layers.prepare_new.Given as goal

abbrev pub invariant-loop-slot : goal.invariant-loop-slot
invariant-loop-slot g l =
    AreMade l.arrangement l.shelf l.slots (l.info.front_to_back ++ filter (is_idle l.info) (take l.slot-index l.order)) l.made.items
