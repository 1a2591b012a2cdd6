-- What is left of a desk after its last call.
use Rattle.std.specs.Prelude.{◌≡◌, ℕ, length, List, [], ◌∷◌, ◌<◌, map, Some, Contains}
use Rattle.std.specs.List.{slice_get}
use Rattle.atomic_table.specs.Seated.{TableId}
use Rattle.lw_calls.specs.declared.touch.Role.TheVariants.{Task}
use Rattle.lw_machine.specs.Desk.{Desk}
use Rattle.lw_machine.specs.History.{machine}
use Rattle.lw_order.specs.Promised.{Follows}
use Rattle.lw_order.specs.Seen.{SeenSeat}
use Rattle.lw_engine_trait.specs.Steps.{Relations, AreParts}
use Rattle.lw_locks.specs.Held.{IsSeat, IsCell, AreRegs, AreTasksRegs}
use Rattle.lw_locks.specs.Seen.{SeenPass}

-- the task of a pass
abbrev pub task_of : SeenPass → ℕ
task_of pass = pass.task

-- the passes have one of each of so many tasks
abbrev pub HasEach : List SeenPass → ℕ → Type 0
HasEach passes tasks = (t : ℕ) → t < tasks → Contains (map task_of passes) t

-- the slots' numbers that cells were taken with
abbrev pub slots_of : {C : Type 0} → List (ℕ × C) → List ℕ
slots_of {C = C} taken = map (λ (one : ℕ × C). one.0) taken

-- there is a cell of each of so many slots
abbrev pub HasEachSlot : {C : Type 0} → List (ℕ × C) → ℕ → Type 0
HasEachSlot taken slots = (slot : ℕ) → slot < slots → Contains (slots_of taken) slot

-- Each cell was taken with its own number, and stands for its slot, whose role the seat has.
abbrev pub AreTaken : {I C R : Type 0} → Relations I C R → Desk → SeenSeat → List (ℕ × C) → Type 0
AreTaken {C = C} relations desk seat taken =
    (slot : ℕ) (cell : C) → Contains taken (slot, cell) → (relations.number cell ≡ slot) × IsCell relations desk seat cell

-- each cell was taken with its place as its number
abbrev pub ArePlaced : {C : Type 0} → List (ℕ × C) → List C → Type 0
ArePlaced {C = C} taken cells = (place : ℕ) (cell : C) → slice_get cells place ≡ Some cell → Contains taken (place, cell)

-- the registers of the tasks from 0 on, whose roles the seat has
abbrev pub AreRegsHeld : {I C R : Type 0} → Relations I C R → Desk → SeenSeat → List R → Type 0
AreRegsHeld {R = R} relations desk seat all = (t : ℕ) (r : R) → slice_get all t ≡ Some r → AreRegs relations desk t seat r

-- The seat has the role of each pass's task, and its history goes on from that of the pass with no further call of this task.
abbrev pub AreFollowed : List SeenPass → SeenSeat → Type 0
AreFollowed passes seat =
    (pass : SeenPass) → Contains passes pass
    → Contains seat.roles (Task pass.task) × Follows (Task pass.task ∷ []) pass.history seat.history

-- All parts stand for the machine's desk after the whole history, in which the calls of each of these passes' tasks are those
-- that the pass made.
pub record IsClosed
    {I C R : Type 0} (relations : Relations I C R) (name : TableId) (desk : Desk) (passes : List SeenPass) (layers : I)
    (cells : List C) (all : List R) (whole : SeenSeat) : Type 0 where
  pub seat : IsSeat name desk whole
  pub parts : AreParts relations desk.sizes desk.assets layers cells (machine desk whole.history)
  pub tasks : length all ≡ desk.sizes.tasks
  pub regs : AreTasksRegs relations all (machine desk whole.history)
  pub followed : AreFollowed passes whole
