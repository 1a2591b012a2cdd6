-- A run under way, after some steps of its history.
use Rattle.std.specs.Prelude.{◌≡◌, ℕ, ◌<◌, List, [], length}
use Rattle.std.specs.List.{slice_index_or, slice_get}
use Rattle.lw_calls.specs.declared.entry.Entry.{Entry}
use Rattle.lw_calls.specs.declared.reply.Reply.{Reply}
use Rattle.lw_calls.specs.Plan.{Plan, task_calls}
use Rattle.lw_calls.specs.Entries.{count_of, next_entry}
use Rattle.lw_machine.specs.Hook.{Hook}
use Rattle.lw_machine.specs.History.{machine, replies_of}
use Rattle.lw_machine.specs.Finals.{opening_desk}
use Rattle.lw_machine.specs.Desk.{Desk}

-- the step that a task's number stands for after the past, if the task has a call left
abbrev pub next_of : Plan → List Entry → ℕ → List Entry
next_of plan past task = next_entry task (count_of task past) (slice_get (task_calls plan task) (count_of task past))

-- The machine after the steps of the past, with these hooks handed in, is a desk for which the parts stand, and each task was
-- told its replies in them. Which desks the parts stand for is an argument.
pub record HasRun
    (plan : Plan) (hooks : List Hook) (past : List Entry) (standing : Desk → Type 0) (told : List (List Reply)) : Type 0 where
  pub stands : standing (machine (opening_desk plan hooks) past)
  pub lists : length told ≡ plan.sizes.tasks
  pub each : (t : ℕ) → t < plan.sizes.tasks → slice_index_or told t [] ≡ replies_of (opening_desk plan hooks) t past
