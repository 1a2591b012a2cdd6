-- The parts of a desk, by the roles that name them.
use Rattle.std.specs.Prelude.{◌≡◌, ℕ, ◌<◌, Bool, List, ℤ, Option, IsTrue}
use Rattle.lw_region.specs.Rectangle.{Rectangle}
use Rattle.lw_calls.specs.declared.touch.Role.{Role}
use Rattle.lw_calls.specs.declared.touch.Role.TheVariants.{Task, Slot as SlotRole, Info}
use Rattle.lw_calls.specs.declared.touch.Touch.{Touch}
use Rattle.lw_calls.specs.declared.sizes.Sizes.{Sizes}
use Rattle.lw_machine.specs.Hook.{Hook}
use Rattle.lw_machine.specs.Layer.{Slot}
use Rattle.lw_machine.specs.Desk.{Desk, is_the}
use Rattle.lw_machine.specs.Screen.{is_shown}
use Rattle.lw_calls.specs.Touches.{touches_role}

-- A slot's part: its state with its layer, its bounds, on which places its layer is shown, and whether it is the active
-- window.
pub record SlotPart : Type 0 where
  pub slot : Slot
  pub bounds : Option Rectangle
  pub shown : ℤ → ℤ → Bool
  pub active : Bool

abbrev pub slot_part : Desk → ℕ → SlotPart
slot_part d s = record { slot = d.slot s; bounds = d.bounds s; shown = is_shown d s; active = is_the d.active s }

-- LayerInfo's part: the list, all bounds, the active window, and the shelf.
pub record InfoPart : Type 0 where
  pub front_to_back : List ℕ
  pub bounds : ℕ → Option Rectangle
  pub active : Option ℕ
  pub shelf : ℕ → Option Hook

abbrev pub info_part : Desk → InfoPart
info_part d = record { front_to_back = d.front_to_back; bounds = d.bounds; active = d.active; shelf = d.shelf }

-- Two desks have the same part of this role; a task's part is its registers.
abbrev pub HaveSame : Role → Desk → Desk → Type 0
HaveSame (Task task) d e = d.registers task ≡ e.registers task
HaveSame (SlotRole s) d e = slot_part d s ≡ slot_part e s
HaveSame Info d e = info_part d ≡ info_part e

-- A slot's role is one for these sizes where the slot is below their number of slots; nothing is asked of other roles.
abbrev pub IsRoleOf : Sizes → Role → Type 0
IsRoleOf s (Task task) = Unit {0}
IsRoleOf s (SlotRole slot) = slot < s.slots
IsRoleOf s Info = Unit {0}

-- Two desks have the same sizes and assets, and the same parts of all roles that are touched.
pub record AgreeOn (t : Touch) (d e : Desk) : Type 0 where
  pub sizes : d.sizes ≡ e.sizes
  pub assets : d.assets ≡ e.assets
  pub parts : (r : Role) → IsTrue (touches_role t r) → IsRoleOf d.sizes r → HaveSame r d e
