use Rattle.std.proofs.Common.{take}
use Rattle.lw_engine.specs.Arranging.{AreMade}
use Rattle.lw_engine.proofs.all_layers.prepare_live.Given as goal

abbrev pub invariant-loop-slot : goal.invariant-loop-slot
invariant-loop-slot g l = AreMade l.arrangement l.shelf l.slots (take l.slot-index l.order) l.made.items
