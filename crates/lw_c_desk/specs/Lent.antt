-- For private contracts.
-- What the handle is once what it lent comes back.
use base.Fml.{Fml}
use denote.Ref.{MutBor}
use denote.Follow.{follows}
use Rattle.std.specs.Prelude.{Some}
use Rattle.lw_program_desk.specs.contracts.program_desk.ProgramDesk.{the_row as Desk-row}
use Rattle.lw_c_desk.specs.declared.held.Held.{Held}
use Rattle.lw_c_desk.specs.contracts.held.Held.{the_row as Held-row}

abbrev pub with_state : Held → Desk-row.Denot → Held
with_state h s = record { at = h.at; alloc = h.alloc; state = Some s }

abbrev pub held_follows : MutBor Held → MutBor Desk-row.Denot → Fml
held_follows h s = follows Held-row Desk-row h.ghost_name s.ghost_name (with_state h.now)
