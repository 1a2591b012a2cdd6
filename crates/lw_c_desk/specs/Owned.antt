-- What a handle owns: nothing where it has no desk, and else the desk behind its pointer and the right to free its block.
use base.Fml.{Fml, ftrue}
use base.Stored.{Coded}
use denote.RawPtr.{Ptr}
use Rattle.std.specs.Prelude.{Option, Some, None}
use Rattle.std.specs.Box.Ownership.{box_owns}
use Rattle.std.specs.Global.{Global}
use Rattle.std_heap.specs.contracts.GlobalAllocator.TheImpl.{ghosts}
use Rattle.lw_program_desk.specs.contracts.program_desk.ProgramDesk.{the_row}

abbrev pub held_owns : Global → Ptr → Option the_row.Denot → Fml
held_owns alloc at None = ftrue
held_owns alloc at (Some state) = box_owns (ghosts.dealloc_token alloc) the_row at state

abbrev pub state_coded : Coded the_row.Denot
state_coded = the_row.coded
