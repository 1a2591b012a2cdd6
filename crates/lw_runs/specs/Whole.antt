-- The runs of all tasks in one history.
use Rattle.std.specs.Prelude.{◌≡◌, ℕ, ◌+◌, true, nat_lt, if◌then◌else◌, List, [], ◌∷◌, length, map, Some}
use Rattle.std.specs.List.{slice_get, slice_set}
use Rattle.lw_calls.specs.declared.entry.Entry.{Entry}
use Rattle.lw_calls.specs.Entries.{entries}
use Rattle.lw_calls.specs.Orders.{is_legal}
use Rattle.lw_calls.specs.Plan.{Plan, task_calls, task_groups}
use Rattle.lw_machine.specs.Desk.{Desk}
use Rattle.lw_machine.specs.History.{machine}
use Rattle.lw_engine_trait.specs.Steps.{Relations, AreParts}
use Rattle.lw_locks.specs.Joins.{IsHistory}
use Rattle.lw_locks.specs.Seen.{SeenPass}
use Rattle.lw_runs.specs.declared.answers.TaskAnswers.{TaskAnswers}
use Rattle.lw_runs.specs.Made.{places_of, HasTold}

-- A task of the plan made all its calls, and was told this.
abbrev pub HasAll : Desk → Plan → ℕ → List Entry → TaskAnswers → Type 0
HasAll desk plan task history told =
    HasTold desk (task_groups plan task) task (task_calls plan task) history told.replies told.tickets.items

-- each task did, in the history that its pass knows
abbrev pub EachHasAll : Desk → Plan → List SeenPass → List TaskAnswers → Type 0
EachHasAll desk plan passes all =
    (t : ℕ) (p : SeenPass) (told : TaskAnswers) → slice_get passes t ≡ Some p → slice_get all t ≡ Some told
    → (p.task ≡ t) × HasAll desk plan t p.history told

-- each task did, in one history
abbrev pub AllHaveAll : Desk → Plan → List Entry → List TaskAnswers → Type 0
AllHaveAll desk plan history all = (t : ℕ) (told : TaskAnswers) → slice_get all t ≡ Some told → HasAll desk plan t history told

-- the tasks of the steps of a history, in their order
abbrev pub order_of : List Entry → List ℕ
order_of history = map (λ (e : Entry). e.task) history

-- The history's order is a legal one, and stands for the history.
pub record IsOrdered (plan : Plan) (history : List Entry) : Type 0 where
  pub legal : is_legal plan (order_of history) ≡ true
  pub stands : entries plan [] (order_of history) ≡ history

-- All tasks of a plan ran to their end in one history, and LayerInfo and the cells stand for the machine's desk after it.
pub record HaveRun
    {I C R : Type 0} (relations : Relations I C R) (desk : Desk) (plan : Plan) (layers : I) (cells : List C)
    (history : List Entry) (all : List TaskAnswers) : Type 0 where
  pub parts : AreParts relations desk.sizes desk.assets layers cells (machine desk history)
  pub known : IsHistory desk.sizes history
  pub many : length all ≡ plan.sizes.tasks
  pub told : AllHaveAll desk plan history all

-- each task's tickets are the places of its steps
abbrev pub AreTickets : List Entry → List TaskAnswers → Type 0
AreTickets history all = (t : ℕ) (told : TaskAnswers) → slice_get all t ≡ Some told → told.tickets.items ≡ places_of t 0 history

-- Words of this crate's private contracts.

-- how many steps are of tasks below the number
abbrev pub count_below : ℕ → List Entry → ℕ
count_below n [] = 0
count_below n (e ∷ es) = (if nat_lt e.task n then 1 else 0) + count_below n es

-- the order of a history in which the tasks from a number on stand as 0
abbrev pub order_below : ℕ → List Entry → List ℕ
order_below n es = map (λ (e : Entry). if nat_lt e.task n then e.task else 0) es

-- a list in which this value was put at these places
abbrev pub put : ℕ → List ℕ → List ℕ → List ℕ
put v xs [] = xs
put v xs (n ∷ ns) = put v (slice_set xs n v) ns
