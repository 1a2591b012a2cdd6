-- Which desks the parts that an engine's calls are lent stand for together, and what a call makes of them. Which
-- values stand for which part is an argument, as in `lw_engine_trait`.
use Rattle.std.specs.Prelude.{◌≡◌, ℕ, List, length, slice_set, Some}
use Rattle.std.specs.List.{slice_get}
use Rattle.lw_calls.specs.Assets.{Assets}
use Rattle.lw_calls.specs.declared.sizes.Sizes.{Sizes}
use Rattle.lw_calls.specs.declared.call.Call.{Call}
use Rattle.lw_calls.specs.declared.reply.Reply.{Reply}
use Rattle.lw_machine.specs.Desk.{Desk}
use Rattle.lw_machine.specs.Step.{after, reply}
use Rattle.lw_engine_trait.specs.Steps.{Relations, IsTwoStep, AreParts}

-- LayerInfo and the cells of all slots stand for their parts of a sound desk with these sizes and assets, and each task's
-- registers for its part.
pub record StandForDesk
    {I C R : Type 0} (relations : Relations I C R) (sizes : Sizes) (assets : Assets) (info : I) (cells : List C) (regs : List R)
    (d : Desk) : Type 0 where
  pub layers : AreParts relations sizes assets info cells d
  pub tasks : length regs ≡ sizes.tasks
  pub registers : (t : ℕ) (r : R) → slice_get regs t ≡ Some r → relations.regs_is r (d.registers t)

module _ {I C R : Type 0} (relations : Relations I C R) where
  -- what a call answers, and what the parts then stand for, in every desk for which they stood
  abbrev pub IsStep : Sizes → Assets → I → List C → List R → ℕ → Call → Reply → I → List C → List R → Type 0
  IsStep sizes assets info cells regs task call r new_info new_cells new_regs =
      (d : Desk) → StandForDesk relations sizes assets info cells regs d
      → (r ≡ reply d task call) × StandForDesk relations sizes assets new_info new_cells new_regs (after d task call)

  -- they stand for the same desks as before
  abbrev pub StandStill : Sizes → Assets → I → List C → List R → I → List C → List R → Type 0
  StandStill sizes assets info cells regs new_info new_cells new_regs =
      (d : Desk) → StandForDesk relations sizes assets info cells regs d
      → StandForDesk relations sizes assets new_info new_cells new_regs d

-- Words of this crate's private contracts.

-- each cell has the number of its place
abbrev pub AreNumbered : {I C R : Type 0} → Relations I C R → List C → Type 0
AreNumbered {C = C} relations cells = (s : ℕ) (c : C) → slice_get cells s ≡ Some c → relations.number c ≡ s

-- one entry of a list was set to a value for which this holds
pub record IsSetTo {C : Type 0} (Holds : C → Type 0) (place : ℕ) (old new : List C) : Type 0 where
  pub value : C
  pub set : new ≡ slice_set old place value
  pub holds : Holds value

-- what a call on two layers, of which it reads the first alone, answers and leaves of the second
pub record IsTwoDone
    {I C R : Type 0} (relations : Relations I C R) (sizes : Sizes) (assets : Assets) (source old : C) (call : Call) (r : Reply)
    (new : C) : Type 0 where
  pub number : relations.number new ≡ relations.number old
  pub step : IsTwoStep relations sizes assets source old call r new
