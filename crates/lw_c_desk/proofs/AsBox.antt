-- A handle and its parts own what a box of the state owns.
use Rattle.std.specs.Prelude.{Option, Some, None, is_some, true}
use Rattle.std.proofs.Common.{◌≡◌, refl, sym, true≢false}
use mathlib.Core.List.{List, []}
use mir.Syntax.{impl, tnil, dnil}
use mir.Val.{Val}
use base.Fml.{Fml, fsep}
use denote.Signature.{Slot, plain}
use denote.Struct.Owning.{shape, to}
use denote.Struct.Struct.{Struct}
use Rattle.std_alloc.proofs.BoxSteps.Form.{Bx}
use Rattle.std_heap.specs.contracts.Global as Heap
use Rattle.std_heap.specs.contracts.GlobalAllocator.TheImpl.{ghosts, dict}
use Rattle.std_heap.proofs.Global.TheLaws as heap
use Rattle.lw_program_desk.specs.contracts.program_desk.ProgramDesk as Desk
use Rattle.lw_program_desk.proofs.program_desk.ProgramDesk.TheLaws as desk
use Rattle.lw_c_desk.specs.Owned.{held_owns}
use Rattle.lw_c_desk.specs.contracts.held.parts.Parts as Parts
use Rattle.lw_c_desk.specs.contracts.held.Held as Held

abbrev pub E : Bx
E = record {
  row = Desk.the_row;
  laws = desk.the_row_laws;
  al = record {
    row = Heap.the_row;
    laws = heap.the_row_laws;
    g = ghosts;
    d = dict;
    drops = impl [] tnil dnil;
  };
}

abbrev pub FromParts : Slot 0
FromParts = plain (λ _. Parts.the_row Desk.the_row Heap.the_row ghosts)

abbrev pub FromHeld : Slot 0
FromHeld = plain (λ _. Held.the_row)

-- what a handle owns, by its state
abbrev pub owned : Held.the_row.Denot → List Val → Option Desk.the_row.Denot → Fml
owned h vs state = fsep ((Struct (shape Held.the_type)).own_val (to Held.the_type h) vs) (held_owns h.alloc h.at state)

-- the state that a handle has
pub some_of : {A : Type 0} (it : Option A) → is_some it ≡ true → (a : A) × (it ≡ Some a)
some_of None is = absurd (true≢false (sym is))
some_of (Some a) is = (a, refl)
