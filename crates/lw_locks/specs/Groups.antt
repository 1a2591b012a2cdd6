-- What other tasks do while a group has its locks.
use Rattle.std.specs.Prelude.{ℕ, ◌==◌, Bool, not, ◌||◌, length, drop, List, [], ◌∷◌, All, IsTrue}
use Rattle.lw_calls.specs.declared.call.Call.{Call}
use Rattle.lw_calls.specs.declared.entry.Entry.{Entry}
use Rattle.lw_calls.specs.declared.group.Hold.{Hold}
use Rattle.lw_calls.specs.declared.touch.Role.TheVariants.{Task}
use Rattle.lw_calls.specs.Orders.{meets}
use Rattle.lw_calls.specs.Touches.{touch_of}
use Rattle.lw_machine.specs.Desk.{Desk}
use Rattle.lw_order.specs.Numbered.{CallsFit}
use Rattle.lw_locks.specs.declared.answer.Answer.{Answer}
use Rattle.lw_locks.specs.Promised.{GroupDone, held_roles}

-- The step is the task's own, or touches nothing that the group holds.
abbrev pub keeps_away : Hold → ℕ → Entry → Bool
keeps_away hold task e = (e.task == task) || not (meets hold (touch_of e.task e.call))

-- From where a group's locks were held to its last call no step of another task touches what the group holds.
abbrev pub OthersKeepAway : Type 0
OthersKeepAway =
    (desk : Desk) (hold : Hold) (task : ℕ) (old new : List Entry) (calls : List Call) (had has : List Answer)
    → (group : GroupDone desk (Task task ∷ []) (Task task ∷ held_roles desk.sizes.slots hold) task old new calls had has)
    → CallsFit desk.sizes new → All (λ e. IsTrue (keeps_away hold task e)) (drop (length group.start) new)
