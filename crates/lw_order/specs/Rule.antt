-- What an order word keeps between any two steps, for its word and the views of all seats.
use Rattle.std.specs.Prelude.{◌≡◌, ℕ, ◌<◌, ◌≤◌, ◌^◌, List, [], ◌∷◌, length, All, Contains}
use mathlib.Core.Option.{some}
use lib.ListN.{get_elem?}
use Rattle.lw_calls.specs.declared.sizes.Sizes.{Sizes}
use Rattle.lw_calls.specs.declared.entry.Entry.{Entry}
use Rattle.lw_calls.specs.declared.touch.Role.{Role}
use Rattle.lw_calls.specs.declared.touch.Role.TheVariants.{Task, Slot, Info}
use Rattle.lw_calls.specs.Entries.{count_of}
use Rattle.lw_order.specs.declared.view.View.{View}
use Rattle.lw_order.specs.Numbered.{IsNumbered, TasksBelow, CallsFit}
use Rattle.lw_order.specs.Promised.{Follows}
use Rattle.lw_order.specs.Roles.{HasEachOnce}

-- a role of so many slots and tasks
abbrev pub IsRoleWithin : Sizes → Role → Type 0
IsRoleWithin sizes (Task t) = t < sizes.tasks
IsRoleWithin sizes (Slot s) = s < sizes.slots
IsRoleWithin sizes Info = Unit {0}

-- One view stands well in the whole history: its own is a beginning of it, after which no step touches its roles; its
-- roles are ones of these sizes, none of them twice; and its own history goes on in the same way from each of the former
-- ones.
pub record Stands (sizes : Sizes) (whole : List Entry) (v : View) : Type 0 where
  pub follows : Follows v.roles v.history whole
  pub roles_fit : All (IsRoleWithin sizes) v.roles
  pub once : HasEachOnce v.roles
  pub olds_follow : All (λ o. Follows o.roles o.history v.history) v.olds

-- no two views have a role in common
abbrev pub HeldOnce : List View → Type 0
HeldOnce views =
    (i j : ℕ) (v w : View) (role : Role) → get_elem? views i ≡ some v → get_elem? views j ≡ some w → Contains v.roles role
    → Contains w.roles role → i ≡ j

-- The words that an order word lies among, of which it alone is written: eight on each side, or seven, so that nothing else that
-- is written lies in its cache line.
abbrev pub with_word : ℕ → List ℕ
with_word n = 0 ∷ 0 ∷ 0 ∷ 0 ∷ 0 ∷ 0 ∷ 0 ∷ 0 ∷ n ∷ 0 ∷ 0 ∷ 0 ∷ 0 ∷ 0 ∷ 0 ∷ 0 ∷ []

-- This history is the whole one: the word is its length, and each view stands well in it. Its steps are numbered, of
-- tasks below the number of tasks and of calls that fit, and no task has more steps than can be numbered.
pub record Keeps (sizes : Sizes) (words : List ℕ) (views : List View) (whole : List Entry) : Type 0 where
  pub word : words ≡ with_word (length whole)
  pub stands : (seat : ℕ) (v : View) → get_elem? views seat ≡ some v → Stands sizes whole v
  pub held_once : HeldOnce views
  pub numbered : IsNumbered whole
  pub tasks_fit : TasksBelow sizes.tasks whole
  pub calls_fit : CallsFit sizes whole
  pub steps_fit : (task : ℕ) → count_of task whole ≤ 4294967295
  pub few_tasks : sizes.tasks < 2 ^ 32

-- There is such a history. No code holds it.
abbrev pub KeepsOrder : Sizes → List ℕ → List View → Type 0
KeepsOrder sizes words views = (whole : List Entry) × Keeps sizes words views whole
