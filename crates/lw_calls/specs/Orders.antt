-- Legal orders of a plan's calls.
use Rattle.std.specs.Prelude.{◌≡◌, ℕ, ◌+◌, ◌<◌, ◌==◌, Bool, true, false, not, ◌&&◌, ◌||◌, ◌⊎◌, nat_lt, nat_le, if◌then◌else◌}
use Rattle.std.specs.Prelude.{List, [], ◌∷◌, ◌++◌, length, take, Option, Some, None, IsTrue}
use Rattle.std.specs.List.{list_any, list_all, range_with_len, slice_get}
use Rattle.lw_calls.specs.declared.call.Call.{Call}
use Rattle.lw_calls.specs.declared.touch.Slots.{Slots}
use Rattle.lw_calls.specs.declared.touch.Slots.TheVariants.{Nothing, One, Two, All as AllSlots}
use Rattle.lw_calls.specs.declared.touch.Touch.{Touch}
use Rattle.lw_calls.specs.declared.group.Hold.{Hold}
use Rattle.lw_calls.specs.declared.group.Hold.TheVariants.{Slot, All as AllLayers}
use Rattle.lw_calls.specs.declared.group.Group.{Group}
use Rattle.lw_calls.specs.Plan.{Plan, task_calls, task_groups}
use Rattle.lw_calls.specs.Touches.{touch_of, has_slot}

-- how often a number stands in a list
abbrev pub occurrences : ℕ → List ℕ → ℕ
occurrences t [] = 0
occurrences t (u ∷ us) = (if u == t then 1 else 0) + occurrences t us

-- there is some slot among these
abbrev pub has_some : Slots → Bool
has_some Nothing = false
has_some (One a) = true
has_some (Two a b) = true
has_some AllSlots = true

-- A call that touches these parts touches what a group holds: its one layer, or LayerInfo and all layers.
abbrev pub meets : Hold → Touch → Bool
meets (Slot s) t = has_slot t.slots s
meets AllLayers t = t.info || has_some t.slots

-- the group's first call was made and its last one wasn't, where its task made so many calls
abbrev pub is_open : ℕ → Group → Bool
is_open made g = nat_lt g.first made && nat_le made g.last

-- The task is within a group that holds what the call touches.
abbrev pub keeps_off : Plan → List ℕ → Touch → ℕ → Bool
keeps_off plan past touch task = list_any (λ g. is_open (occurrences task past) g && meets g.hold touch) (task_groups plan task)

-- The call of a task may come after the past: no other task is within a group that holds what it touches.
abbrev pub may_come : Plan → List ℕ → ℕ → Option Call → Bool
may_come plan past task None = false
may_come plan past task (Some call) =
    list_all (λ t. (t == task) || not (keeps_off plan past (touch_of task call) t)) (range_with_len 0 plan.sizes.tasks)

-- Each call of the order has its place: it is its task's next call, and may come there. The past is the order up to there.
abbrev pub keeps_groups : Plan → List ℕ → List ℕ → Bool
keeps_groups plan past [] = true
keeps_groups plan past (t ∷ ts) =
    may_come plan past t (slice_get (task_calls plan t) (occurrences t past)) && keeps_groups plan (past ++ t ∷ []) ts

-- each task's number stands as often as the task has calls
abbrev pub is_complete : Plan → List ℕ → Bool
is_complete plan order = list_all (λ t. occurrences t order == length (task_calls plan t)) (range_with_len 0 plan.sizes.tasks)

-- A legal order: each task's number stands in it as often as the task has calls, its k-th occurrence stands for the task's
-- call k, and between the first and the last call of a group no other task's call touches what the group holds.
abbrev pub is_legal : Plan → List ℕ → Bool
is_legal plan order = keeps_groups plan [] order && is_complete plan order

-- some legal order begins with these numbers
abbrev pub Begins : Plan → List ℕ → Type 0
Begins plan numbers = (rest : List ℕ) × IsTrue (is_legal plan (numbers ++ rest))

-- No legal order begins with the first k + 1 numbers, or there are just k.
abbrev pub EndsAt : Plan → List ℕ → ℕ → Type 0
EndsAt plan order k = ((k < length order) × (Begins plan (take (k + 1) order) → ⊥)) ⊎ (k ≡ length order)

-- The first bad place of an order that isn't legal: the first k for which the first k + 1 numbers begin no legal order, or
-- the order's length where there is none.
pub record IsBadPlace (plan : Plan) (order : List ℕ) (k : ℕ) : Type 0 where
  pub illegal : is_legal plan order ≡ false
  pub before : Begins plan (take k order)
  pub ends : EndsAt plan order k
