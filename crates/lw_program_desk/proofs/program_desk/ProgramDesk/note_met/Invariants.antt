use Rattle.std.proofs.Common.{◌++◌, take}
use Rattle.std.specs.List.{flat_map}
use Rattle.lw_machine.specs.Desk.{Desk}
use Rattle.lw_changes.specs.Touched.{bounds_list, repainted_in}
use Rattle.lw_program_desk.specs.Views.{StandsFor}
use Rattle.lw_program_desk.specs.Noting.{AreNoted, StayOn}
use Rattle.lw_program_desk.proofs.program_desk.ProgramDesk.note_met.Given as goal

abbrev pub invariant-loop-slot : goal.invariant-loop-slot
invariant-loop-slot l =
    ((e : Desk) → StandsFor l.self e
    → AreNoted l.self.sizes (flat_map (repainted_in e (bounds_list l.own ++ bounds_list l.is)) (take l.slot-index l.slots))
    l.initial.changes l.changes)
    × StayOn l.self.sizes l.initial.changes l.changes
