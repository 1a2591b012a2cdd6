-- Who may stamp a call: whoever has every role that it touches.
use Rattle.std.specs.Prelude.{◌≡◌, ℕ, ◌<◌, true, List, Contains}
use Rattle.lw_calls.specs.declared.touch.Role.{Role}
use Rattle.lw_calls.specs.declared.touch.Role.TheVariants.{Task, Slot, Info}
use Rattle.lw_calls.specs.declared.touch.Slots.{Slots}
use Rattle.lw_calls.specs.declared.touch.Slots.TheVariants.{Nothing, One, Two, All}
use Rattle.lw_calls.specs.declared.touch.Touch.{Touch}

-- The roles have these slots. All slots are those below the number of slots.
abbrev pub HasSlots : ℕ → List Role → Slots → Type 0
HasSlots count roles Nothing = Unit {0}
HasSlots count roles (One a) = Contains roles (Slot a)
HasSlots count roles (Two a b) = Contains roles (Slot a) × Contains roles (Slot b)
HasSlots count roles All = (s : ℕ) → s < count → Contains roles (Slot s)

-- the roles have all that is touched: the task, LayerInfo where it is touched, and the slots
pub record Owns (count : ℕ) (roles : List Role) (touch : Touch) : Type 0 where
  pub has_task : Contains roles (Task touch.task)
  pub has_info : touch.info ≡ true → Contains roles Info
  pub has_slots : HasSlots count roles touch.slots
