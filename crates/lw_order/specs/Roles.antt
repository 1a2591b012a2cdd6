-- Roles, and the steps of a history that leave them alone.
use Rattle.std.specs.Prelude.{◌≡◌, ℕ, ◌==◌, Bool, true, false, not, List, [], ◌∷◌, ◌++◌, map, filter, All, Contains}
use Rattle.std.specs.List.{range_with_len}
use Rattle.lw_calls.specs.declared.entry.Entry.{Entry}
use Rattle.lw_calls.specs.declared.touch.Role.{Role}
use Rattle.lw_calls.specs.declared.touch.Role.TheVariants.{Task, Slot, Info}
use Rattle.lw_calls.specs.Touches.{touch_of, touches_role}

-- the two are one role
abbrev pub same_role : Role → Role → Bool
same_role (Task a) (Task b) = a == b
same_role (Slot a) (Slot b) = a == b
same_role Info Info = true
same_role a b = false

-- every role of so many slots and tasks, each once
abbrev pub all_roles : ℕ → ℕ → List Role
all_roles slots tasks = Info ∷ map (λ t. Task t) (range_with_len 0 tasks) ++ map (λ s. Slot s) (range_with_len 0 slots)

-- the roles without this one
abbrev pub without : Role → List Role → List Role
without off roles = filter (λ role. not (same_role off role)) roles

-- no role stands twice among the roles
abbrev pub HasEachOnce : List Role → Type 0
HasEachOnce [] = Unit {0}
HasEachOnce (role ∷ rest) = (Contains rest role → ⊥) × HasEachOnce rest

-- the step touches none of the roles
abbrev pub LeavesAlone : List Role → Entry → Type 0
LeavesAlone roles e = All (λ role. touches_role (touch_of e.task e.call) role ≡ false) roles

-- none of the steps touches one of the roles
abbrev pub Quiet : List Role → List Entry → Type 0
Quiet roles es = All (LeavesAlone roles) es
