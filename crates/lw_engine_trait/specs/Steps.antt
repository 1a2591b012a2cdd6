-- What a call makes of the parts that it touches, in every desk for which they stand, whatever stands for the parts.
-- Which registers, cells or values of LayerInfo stand for which part is an argument, an engine's relations.
use Rattle.std.specs.Prelude.{◌≡◌, ℕ, List, length, Some}
use Rattle.std.specs.List.{slice_get}
use Rattle.lw_region.specs.Pixels.{Pixel}
use Rattle.lw_calls.specs.Assets.{Assets}
use Rattle.lw_calls.specs.declared.sizes.Sizes.{Sizes}
use Rattle.lw_calls.specs.declared.call.Call.{Call}
use Rattle.lw_calls.specs.declared.reply.Reply.{Reply}
use Rattle.lw_machine.specs.Desk.{Desk}
use Rattle.lw_machine.specs.Parts.{SlotPart, slot_part, InfoPart, info_part}
use Rattle.lw_machine.specs.Sound.{IsDesk}
use Rattle.lw_machine.specs.Step.{after, reply}

-- Which values of an engine stand for which parts of a desk.
pub record Relations (Info Cell Regs : Type 0) : Type 1 where
  -- the number of a cell's slot
  pub number : Cell → ℕ
  -- which registers stand for those of a task
  pub regs_is : Regs → (ℕ → List Pixel) → Type 0
  -- which cells stand for a slot
  pub cell_is : Cell → SlotPart → Type 0
  -- which values stand for LayerInfo, on a desk with these sizes
  pub info_is : Sizes → Info → InfoPart → Type 0

-- A sound desk with these sizes, to which these assets were handed in.
pub record IsDeskOf (all_sizes : Sizes) (handed : Assets) (d : Desk) : Type 0 where
  pub sound : IsDesk d
  pub sizes : d.sizes ≡ all_sizes
  pub assets : d.assets ≡ handed

module _ {Info Cell Regs : Type 0} (relations : Relations Info Cell Regs) where
  -- a call on the registers of its task
  abbrev pub IsRegsStep : Sizes → Assets → Regs → Call → Reply → Regs → Type 0
  IsRegsStep sizes assets old call r new =
      (d : Desk) (task : ℕ) → IsDeskOf sizes assets d → relations.regs_is old (d.registers task)
      → (r ≡ reply d task call) × relations.regs_is new ((after d task call).registers task)

  -- a look at LayerInfo
  abbrev pub IsLookStep : Sizes → Assets → Info → Call → Reply → Type 0
  IsLookStep sizes assets info call r =
      (d : Desk) (task : ℕ) → IsDeskOf sizes assets d → relations.info_is sizes info (info_part d) → r ≡ reply d task call

  -- a call of a task on the layer of a cell
  abbrev pub IsOneStep : Sizes → Assets → Cell → Regs → ℕ → Call → Reply → Cell → Type 0
  IsOneStep sizes assets old regs task call r new =
      (d : Desk) → IsDeskOf sizes assets d → relations.cell_is old (slot_part d (relations.number old))
      → relations.regs_is regs (d.registers task)
      → (r ≡ reply d task call) × relations.cell_is new (slot_part (after d task call) (relations.number old))

  -- a call on two layers, of which it reads the first alone and leaves it as it is
  abbrev pub IsTwoStep : Sizes → Assets → Cell → Cell → Call → Reply → Cell → Type 0
  IsTwoStep sizes assets source old call r new =
      (d : Desk) (task : ℕ) → IsDeskOf sizes assets d
      → relations.cell_is source (slot_part d (relations.number source))
      → relations.cell_is old (slot_part d (relations.number old))
      → (r ≡ reply d task call) × relations.cell_is source (slot_part (after d task call) (relations.number source))
      × relations.cell_is new (slot_part (after d task call) (relations.number old))

  -- the cells have the numbers from 0 on, and each stands for its slot's part of the desk
  abbrev pub AreCells : List Cell → Desk → Type 0
  AreCells cells d =
      (s : ℕ) (c : Cell) → slice_get cells s ≡ Some c → (relations.number c ≡ s) × relations.cell_is c (slot_part d s)

-- LayerInfo and the cells of all slots stand for their parts of a sound desk.
pub record AreParts
    {Info Cell Regs : Type 0} (relations : Relations Info Cell Regs) (all_sizes : Sizes) (handed : Assets) (layers : Info)
    (all : List Cell) (d : Desk) : Type 0 where
  pub desk : IsDeskOf all_sizes handed d
  pub many : length all ≡ all_sizes.slots
  pub info : relations.info_is all_sizes layers (info_part d)
  pub cells : AreCells relations all d

module _ {Info Cell Regs : Type 0} (relations : Relations Info Cell Regs) where
  -- a call on all slots
  abbrev pub IsAllStep : Sizes → Assets → Info → List Cell → ℕ → Call → Reply → Info → List Cell → Type 0
  IsAllStep sizes assets info cells task call r new_info new_cells =
      (d : Desk) → AreParts relations sizes assets info cells d
      → (r ≡ reply d task call) × AreParts relations sizes assets new_info new_cells (after d task call)

  -- they stand for the same parts as before
  abbrev pub AreStill : Sizes → Assets → Info → List Cell → Info → List Cell → Type 0
  AreStill sizes assets info cells new_info new_cells =
      (d : Desk) → AreParts relations sizes assets info cells d → AreParts relations sizes assets new_info new_cells d
