-- What lies behind a lock, or with a task: a part that stands for its part of the machine after the history that its seat knows.
-- Which values stand for which parts is an argument, as in `lw_engine_trait`.
use Rattle.std.specs.Prelude.{◌≡◌, ℕ, List, [], ◌∷◌, Some, Contains}
use Rattle.std.specs.List.{slice_get}
use Rattle.atomic_table.specs.Seated.{TableId}
use Rattle.lw_calls.specs.Assets.{Assets}
use Rattle.lw_calls.specs.declared.group.Hold.TheVariants.{All as AllLayers}
use Rattle.lw_calls.specs.declared.sizes.Sizes.{Sizes}
use Rattle.lw_calls.specs.declared.touch.Role.{Role}
use Rattle.lw_calls.specs.declared.touch.Role.TheVariants.{Task, Slot, Info}
use Rattle.lw_calls.specs.Entries.{count_of}
use Rattle.lw_calls.specs.Limits.{IsWithinLimits}
use Rattle.lw_machine.specs.Desk.{Desk, empty_desk}
use Rattle.lw_machine.specs.History.{machine}
use Rattle.lw_machine.specs.Parts.{slot_part, info_part}
use Rattle.lw_order.specs.Seen.{SeenSeat}
use Rattle.lw_engine_trait.specs.Steps.{Relations}
use Rattle.lw_locks.specs.Joins.{IsHistory}
use Rattle.lw_locks.specs.Promised.{held_roles}

-- The seat is of this order word, and knows a history that it may have.
pub record IsSeat (name : TableId) (desk : Desk) (seat : SeenSeat) : Type 0 where
  pub word : seat.word ≡ name
  pub known : IsHistory desk.sizes seat.history

-- What the parts hang on: the machine begins with an empty desk, and these are an engine's sizes and assets.
pub record IsBegun (desk : Desk) (s : Sizes) (a : Assets) : Type 0 where
  pub empty : desk ≡ empty_desk desk.sizes desk.assets desk.shelf
  pub limits : IsWithinLimits desk.sizes
  pub sizes : s ≡ desk.sizes
  pub assets : a ≡ desk.assets

-- the machine after the history that a seat knows
abbrev pub desk_at : Desk → SeenSeat → Desk
desk_at desk seat = machine desk seat.history

-- Registers stand for those of a task, whose role the seat has.
pub record AreRegs
    {I C R : Type 0} (relations : Relations I C R) (desk : Desk) (task : ℕ) (seat : SeenSeat) (mine : R) : Type 0 where
  pub has : Contains seat.roles (Task task)
  pub stand : relations.regs_is mine ((desk_at desk seat).registers task)

-- the registers of the tasks from 0 on, each of which stand for their task's part of the desk
abbrev pub AreTasksRegs : {I C R : Type 0} → Relations I C R → List R → Desk → Type 0
AreTasksRegs {R = R} relations all d = (t : ℕ) (r : R) → slice_get all t ≡ Some r → relations.regs_is r (d.registers t)

-- A cell stands for its slot, whose role the seat has.
pub record IsCell {I C R : Type 0} (relations : Relations I C R) (desk : Desk) (seat : SeenSeat) (kept : C) : Type 0 where
  pub has : Contains seat.roles (Slot (relations.number kept))
  pub stands : relations.cell_is kept (slot_part (desk_at desk seat) (relations.number kept))

-- LayerInfo stands for its part, whose role the seat has.
pub record IsInfo {I C R : Type 0} (relations : Relations I C R) (desk : Desk) (seat : SeenSeat) (kept : I) : Type 0 where
  pub has : Contains seat.roles Info
  pub stands : relations.info_is desk.sizes kept (info_part (desk_at desk seat))

-- Each cell has its place as its number and stands for that slot, whose role the seat has.
abbrev pub AreCellsHeld : {I C R : Type 0} → Relations I C R → Desk → SeenSeat → List C → Type 0
AreCellsHeld {C = C} relations desk seat all =
    (s : ℕ) (c : C) → slice_get all s ≡ Some c → (relations.number c ≡ s) × IsCell relations desk seat c

-- LayerInfo and the cells of the slots from 0 on stand for their parts, whose roles the seat has.
pub record AreHeld
    {I C R : Type 0} (relations : Relations I C R) (desk : Desk) (seat : SeenSeat) (kept : I) (all : List C) : Type 0 where
  pub info : IsInfo relations desk seat kept
  pub cells : AreCellsHeld relations desk seat all

-- A task's part: its registers, and a seat with its role and maybe others, which knows as many of its calls as it made.
pub record IsHolding
    {I C R : Type 0} (relations : Relations I C R) (name : TableId) (desk : Desk) (task made : ℕ) (held : SeenSeat)
    (mine : R) : Type 0 where
  pub seat : IsSeat name desk held
  pub regs : AreRegs relations desk task held mine
  pub counted : made ≡ count_of task held.history

-- A slot behind its lock: its cell, and a seat with its role.
pub record IsLayer
    {I C R : Type 0} (relations : Relations I C R) (name : TableId) (desk : Desk) (slot : ℕ) (own : SeenSeat)
    (kept : C) : Type 0 where
  pub seat : IsSeat name desk own
  pub roles : own.roles ≡ Slot slot ∷ []
  pub number : relations.number kept ≡ slot
  pub cell : IsCell relations desk own kept

-- LayerInfo behind its lock, and a seat with its role.
pub record IsLayerInfo
    {I C R : Type 0} (relations : Relations I C R) (name : TableId) (desk : Desk) (own : SeenSeat) (kept : I) : Type 0 where
  pub seat : IsSeat name desk own
  pub roles : own.roles ≡ Info ∷ []
  pub info : IsInfo relations desk own kept

-- the roles of a task that holds LayerInfo and the slots below a number, in the order in which their locks are taken
abbrev pub roles_below : ℕ → ℕ → List Role
roles_below task next = Task task ∷ held_roles next AllLayers
