use Rattle.std.proofs.Common.{take}
use Rattle.lw_engine.proofs.ArrangingLists.{AreSeen}
use Rattle.lw_engine.proofs.all_layers.looks_of.Given as goal

abbrev pub invariant-loop-slot : goal.invariant-loop-slot
invariant-loop-slot g l = AreSeen (take l.slot-index l.order) l.slots l.looks.items
