use Rattle.std.proofs.Common.{◌≡◌, take}
use Rattle.lw_machine.specs.Desk.{Desk}
use Rattle.lw_engine.specs.Desks.{AreOfDesk}
use Rattle.lw_engine.specs.PartsMade.{part_among}
use Rattle.lw_engine.proofs.composing.composed.Given as goal

abbrev pub invariant-loop-slot : goal.invariant-loop-slot
invariant-loop-slot g l = (d : Desk) → AreOfDesk l.info l.slots d → l.planes ≡ part_among d l.rect (take l.slot-index l.order)
