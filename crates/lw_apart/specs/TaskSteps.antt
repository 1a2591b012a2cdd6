-- The steps of one task in a history.
use Rattle.std.specs.Prelude.{◌≡◌, ℕ, ◌+◌, ◌==◌, true, if◌then◌else◌, List, [], ◌∷◌}
use Rattle.lw_calls.specs.declared.call.Call.{Call}
use Rattle.lw_calls.specs.declared.entry.Entry.{Entry}
use Rattle.lw_calls.specs.Plan.{Plan, IsPlan, task_calls}
use Rattle.lw_calls.specs.Entries.{entries}
use Rattle.lw_calls.specs.Orders.{is_legal}

-- the task's steps of a history
abbrev pub steps_of : ℕ → List Entry → List Entry
steps_of task [] = []
steps_of task (e ∷ es) = if e.task == task then e ∷ steps_of task es else steps_of task es

-- the steps in which a task makes these calls in their order, the first of them as its call n
abbrev pub numbered : ℕ → ℕ → List Call → List Entry
numbered task n [] = []
numbered task n (c ∷ cs) = record { task = task; seq = n; call = c } ∷ numbered task (n + 1) cs

-- Whatever legal order a run has, the steps of each task are its calls, each once and in their order. A task that the plan hasn't
-- got has none.
abbrev pub TasksKeepTheirOrder : Type 0
TasksKeepTheirOrder =
    (plan : Plan) (order : List ℕ) → IsPlan plan → is_legal plan order ≡ true → (task : ℕ)
    → steps_of task (entries plan [] order) ≡ numbered task 0 (task_calls plan task)
