-- The steps that an order of task numbers stands for.
use Rattle.std.specs.Prelude.{ℕ, ◌+◌, ◌==◌, if◌then◌else◌, List, [], ◌∷◌, ◌++◌, length, Option, Some, None, replicate}
use Rattle.std.specs.List.{slice_get}
use Rattle.lw_calls.specs.declared.call.Call.{Call}
use Rattle.lw_calls.specs.declared.entry.Entry.{Entry}
use Rattle.lw_calls.specs.Plan.{Plan, task_calls}

-- how many steps of a history are the task's
abbrev pub count_of : ℕ → List Entry → ℕ
count_of task [] = 0
count_of task (e ∷ es) = (if e.task == task then 1 else 0) + count_of task es

-- the next step of a task that made seq calls so far, if it has a call left
abbrev pub next_entry : ℕ → ℕ → Option Call → List Entry
next_entry task seq None = []
next_entry task seq (Some call) = record { task = task; seq = seq; call = call } ∷ []

-- The steps that an order of task numbers stands for, after the past: the k-th occurrence of a task's number stands
-- for its call k, and for nothing where the task has no such call.
abbrev pub entries : Plan → List Entry → List ℕ → List Entry
entries plan past [] = []
entries plan past (task ∷ tasks) =
    let next = next_entry task (count_of task past) (slice_get (task_calls plan task) (count_of task past)) in
    next ++ entries plan (past ++ next) tasks

-- the only order of a plan with one task
abbrev pub only_order : Plan → List ℕ
only_order plan = replicate (length (task_calls plan 0)) 0
