-- Worked cases.
-- What calls of task 3 touch.
use Rattle.std.specs.Prelude.{ℕ, Bool, List, [], ◌∷◌, map}
use Rattle.lw_calls.specs.declared.operation.RectOp.TheVariants.{Or}
use Rattle.lw_calls.specs.declared.operation.PairOp.TheVariants.{Or as OrPair}
use Rattle.lw_calls.specs.declared.call.Call.{Call}
use Rattle.lw_calls.specs.declared.call.Call.TheVariants.{RegRect, RegPair, RegClear}
use Rattle.lw_calls.specs.declared.touch.Role.TheVariants.{Task, Slot, Info}
use Rattle.lw_calls.specs.declared.touch.Slots.{Slots}
use Rattle.lw_calls.specs.declared.touch.Touch.{Touch}
use Rattle.lw_calls.specs.Touches.{touch_of, touches_role}
use Rattle.lw_cases.specs.CallTables.{corner}

-- what these calls on slot 5 touch
abbrev pub touched_on : List (ℕ → Call) → List Touch
touched_on calls = map (λ call. touch_of 3 (call 5)) calls

-- the registers of task 3, with LayerInfo or without, and slots
abbrev pub touch : Bool → Slots → Touch
touch info slots = record { task = 3; info = info; slots = slots }

-- the region calls
abbrev pub region_calls : List Call
region_calls = RegRect Or 4 corner ∷ RegPair OrPair 4 5 ∷ RegClear 4 ∷ []

-- which of the tasks 3 and 5, of the slots 3, 5, 6 and 7 and of LayerInfo a call touches
abbrev pub roles_touched : Call → List Bool
roles_touched call =
    map (touches_role (touch_of 3 call)) (Task 3 ∷ Task 5 ∷ Slot 3 ∷ Slot 5 ∷ Slot 6 ∷ Slot 7 ∷ Info ∷ [])
