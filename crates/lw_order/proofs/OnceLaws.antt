-- Roles of which none stands twice.
use Rattle.std.proofs.Common.{ℕ, zero, suc, ◌+◌, ◌≤◌, Bool, true, false, not, List, [], ◌∷◌, ◌++◌, map, cond, ⊎_elim, arith}
use Rattle.std.specs.Prelude.{All, Contains}
use Rattle.std.specs.List.{range_with_len}
use Rattle.std.proofs.lemmas.List.Elements.{All-nil, All-cons, All-map, All-weaker, All-contains, Contains-append_cases}
use Rattle.lw_calls.specs.declared.touch.Role.{Role}
use Rattle.lw_calls.specs.declared.touch.Role.TheVariants.{Task, Slot, Info}
use Rattle.lw_order.specs.Roles.{same_role, all_roles, without, HasEachOnce}
use Rattle.lw_order.proofs.RoleLaws.{was_there, contains_more, contains_first}

pub no_role : (role : Role) → Contains [] role → ⊥
no_role role h = let below = h.1 in omega arith

-- one role alone
pub one_once : (role : Role) → HasEachOnce (role ∷ [])
one_once role = (no_role role, tt)

-- two lists that have no role in common
pub both_once : (mine theirs : List Role) → HasEachOnce mine → HasEachOnce theirs → ((role : Role) → Contains mine role → Contains theirs role → ⊥) → HasEachOnce (mine ++ theirs)
both_once [] theirs once other apart = other
both_once (role ∷ mine) theirs once other apart = (
  λ has. ⊎_elim (λ here. once.0 here) (λ there. apart role (contains_first role role mine (λ _. role)) there) (Contains-append_cases mine theirs role has),
  both_once mine theirs once.1 other (λ r here there. apart r (contains_more role r mine here) there),
)

kept_once : (role : Role) (rest : List Role) (t : Bool) → (Contains rest role → ⊥) → HasEachOnce rest → HasEachOnce (cond t (role ∷ rest) rest)
kept_once role rest true apart once = (apart, once)
kept_once role rest false apart once = once

-- the roles without one
pub without_once : (off : Role) (roles : List Role) → HasEachOnce roles → HasEachOnce (without off roles)
without_once off [] once = tt
without_once off (role ∷ rest) once =
    kept_once role (without off rest) (not (same_role off role)) (λ has. once.0 (was_there off role rest has)) (without_once off rest once.1)

-- the number of a slot's role or a task's is at least this
abbrev IsFrom : ℕ → Role → Type 0
IsFrom a (Task t) = a ≤ t
IsFrom a (Slot s) = a ≤ s
IsFrom a Info = ⊥

range_from : (a n : ℕ) → All (λ k. a ≤ k) (range_with_len a n)
range_from a zero = All-nil (λ k. a ≤ k)
range_from a (suc n) =
    All-cons (λ k. a ≤ k) a (range_with_len (a + 1) n) (omega arith)
    (All-weaker (λ k. a + 1 ≤ k) (λ k. a ≤ k) (λ k h. omega arith) (range_with_len (a + 1) n) (range_from (a + 1) n))

tasks_from : (a n : ℕ) → All (IsFrom a) (map (λ t. Task t) (range_with_len a n))
tasks_from a n = All-map (IsFrom a) (λ t. Task t) (range_with_len a n) (range_from a n)

slots_from : (a n : ℕ) → All (IsFrom a) (map (λ s. Slot s) (range_with_len a n))
slots_from a n = All-map (IsFrom a) (λ s. Slot s) (range_with_len a n) (range_from a n)

not_below : (a : ℕ) → a + 1 ≤ a → ⊥
not_below a h = omega arith

tasks_once : (a n : ℕ) → HasEachOnce (map (λ t. Task t) (range_with_len a n))
tasks_once a zero = tt
tasks_once a (suc n) =
    (λ has. not_below a (All-contains (IsFrom (a + 1)) (map (λ t. Task t) (range_with_len (a + 1) n)) (Task a) (tasks_from (a + 1) n) has), tasks_once (a + 1) n)

slots_once : (a n : ℕ) → HasEachOnce (map (λ s. Slot s) (range_with_len a n))
slots_once a zero = tt
slots_once a (suc n) =
    (λ has. not_below a (All-contains (IsFrom (a + 1)) (map (λ s. Slot s) (range_with_len (a + 1) n)) (Slot a) (slots_from (a + 1) n) has), slots_once (a + 1) n)

abbrev IsTask : Role → Type 0
IsTask (Task t) = Unit {0}
IsTask (Slot s) = ⊥
IsTask Info = ⊥

abbrev IsSlot : Role → Type 0
IsSlot (Task t) = ⊥
IsSlot (Slot s) = Unit {0}
IsSlot Info = ⊥

-- a list of numbers, each with what holds of all
each_is : (P : ℕ → Type 0) → ((k : ℕ) → P k) → (ks : List ℕ) → All P ks
each_is P all [] = All-nil P
each_is P all (k ∷ ks) = All-cons P k ks (all k) (each_is P all ks)

-- a role of a task is no role of a slot, and LayerInfo's is neither
apart_kinds : (role : Role) → IsTask role → IsSlot role → ⊥
apart_kinds (Task t) task slot = slot
apart_kinds (Slot s) task slot = task
apart_kinds Info task slot = task

abbrev task_roles : ℕ → List Role
task_roles tasks = map (λ t. Task t) (range_with_len 0 tasks)

abbrev slot_roles : ℕ → List Role
slot_roles slots = map (λ s. Slot s) (range_with_len 0 slots)

are_tasks : (tasks : ℕ) → All IsTask (task_roles tasks)
are_tasks tasks = All-map IsTask (λ t. Task t) (range_with_len 0 tasks) (each_is (λ k. Unit {0}) (λ k. tt) (range_with_len 0 tasks))

are_slots : (slots : ℕ) → All IsSlot (slot_roles slots)
are_slots slots = All-map IsSlot (λ s. Slot s) (range_with_len 0 slots) (each_is (λ k. Unit {0}) (λ k. tt) (range_with_len 0 slots))

-- all roles have each once
pub all_roles_once : (slots tasks : ℕ) → HasEachOnce (all_roles slots tasks)
all_roles_once slots tasks = (
  λ has. ⊎_elim
      (λ here. All-contains IsTask (task_roles tasks) Info (are_tasks tasks) here)
      (λ there. All-contains IsSlot (slot_roles slots) Info (are_slots slots) there)
      (Contains-append_cases (task_roles tasks) (slot_roles slots) Info has),
  both_once (task_roles tasks) (slot_roles slots) (tasks_once 0 tasks) (slots_once 0 slots)
      (λ role here there. apart_kinds role (All-contains IsTask (task_roles tasks) role (are_tasks tasks) here) (All-contains IsSlot (slot_roles slots) role (are_slots slots) there)),
)
