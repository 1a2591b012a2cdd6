-- What a call on a program's desk makes.
use Rattle.std.specs.Prelude.{◌≡◌}
use Rattle.lw_calls.specs.declared.call.Call.{Call}
use Rattle.lw_calls.specs.declared.reply.Reply.{Reply}
use Rattle.lw_machine.specs.Desk.{Desk}
use Rattle.lw_machine.specs.Step.{after, reply}
use Rattle.lw_program_desk.specs.Views.{DeskView, StandsFor}

-- what a call answers, and what the desk then stands for, of every desk for which it stood
abbrev pub IsStep : DeskView → Call → Reply → DeskView → Type 0
IsStep old call r new = (d : Desk) → StandsFor old d → (r ≡ reply d 0 call) × StandsFor new (after d 0 call)

-- it stands for the same desks as before
abbrev pub StandsStill : DeskView → DeskView → Type 0
StandsStill old new = (d : Desk) → StandsFor old d → StandsFor new d
