-- What C reads of a desk's layers: of each desk of the machine for which it stands.
use Rattle.std.specs.Prelude.{◌≡◌, ℕ, ◌<◌, ◌≤◌, nat_le, if◌then◌else◌, List, ◌++◌, map, length, drop, ℤ, Option, Some, None}
use Rattle.lw_region.specs.Rectangle.{Rectangle}
use Rattle.lw_machine.specs.Desk.{Desk}
use Rattle.lw_program_desk.specs.Views.{DeskView, StandsFor}
use Rattle.lw_c_rectangles.specs.declared.bounds.Bounds.{Bounds}
use Rattle.lw_c_rectangles.specs.Bounds.{bounds_of}
use Rattle.lw_c_desk.specs.Answered.{done, no_room, closed, unfit, no_layer, no_window}

-- A reader, but for that of the changes, leaves the handle as it was. Without a desk it answers `closed` and writes nothing; of a
-- desk it tells this.
pub record IsReadOf (told : DeskView → Type 0) (v : DeskView) (new : Option DeskView) : Type 0 where
  pub kept : new ≡ Some v
  pub is_told : told v

pub record IsNotRead (kept : Type 0) (new : Option DeskView) (answer : ℤ) : Type 0 where
  pub answered : answer ≡ closed
  pub desk : new ≡ None
  pub arrays : kept

abbrev pub IsRead : (DeskView → Type 0) → Type 0 → Option DeskView → Option DeskView → ℤ → Type 0
IsRead told kept None new answer = IsNotRead kept new answer
IsRead told kept (Some v) new answer = IsReadOf told v new

-- so of each desk for which it stands, and of a slot that it has; of any other slot it answers `unfit`, and writes nothing
abbrev pub OfEachDesk : (Desk → Type 0) → DeskView → Type 0
OfEachDesk told v = (d : Desk) → StandsFor v d → told d

pub record OfSlot (slot : ℕ) (answer : ℤ) (kept : Type 0) (told : Desk → Type 0) (v : DeskView) : Type 0 where
  pub none : v.sizes.slots ≤ slot → (answer ≡ unfit) × kept
  pub some : slot < v.sizes.slots → OfEachDesk told v

-- an array and a count that stay
abbrev pub AreSame : {Y : Type 0} → List Y → List Y → ℕ → ℕ → Type 0
AreSame old new old_count new_count = (new ≡ old) × (new_count ≡ old_count)

-- The count tells how long the list is. The array begins with it where there is room, and the rest of it stays; where there
-- is none, it answers that, and the array stays.
pub record IsListed {X Y : Type 0} (f : X → Y) (list : List X) (old new : List Y) (new_count : ℕ) (answer : ℤ) : Type 0 where
  pub answered : answer ≡ (if nat_le (length list) (length old) then done else no_room)
  pub array : new ≡ (if nat_le (length list) (length old) then map f list ++ drop (length list) old else old)
  pub count : new_count ≡ length list

-- a list that a slot may have; where it hasn't, the answer is `none`, and nothing is written
abbrev pub IsListedIfAny : {X Y : Type 0} → ℤ → (X → Y) → Option (List X) → List Y → List Y → ℕ → ℕ → ℤ → Type 0
IsListedIfAny none f None old new old_count new_count answer = (answer ≡ none) × AreSame old new old_count new_count
IsListedIfAny none f (Some list) old new old_count new_count answer = IsListed f list old new new_count answer

-- where there is no list of messages, the slot has no layer, or its layer is no window
abbrev pub no_messages : Option Rectangle → ℤ
no_messages None = no_layer
no_messages (Some bounds) = no_window

-- the bounds of a layer
abbrev pub AreBoundsTold : Option Rectangle → Bounds → Bounds → ℤ → Type 0
AreBoundsTold None old new answer = (answer ≡ no_layer) × (new ≡ old)
AreBoundsTold (Some r) old new answer = (answer ≡ done) × (new ≡ bounds_of r)
