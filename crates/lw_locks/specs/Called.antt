-- For private contracts.
-- What the desk's own functions ask and promise of calls.
use Rattle.std.specs.Prelude.{◌≡◌, ℕ, ◌+◌, ◌<◌, ◌≤◌, List, [], ◌∷◌, length, All, IsTrue, Result, IfOk, OnErr, MatchResult}
use Rattle.lw_calls.specs.declared.call.Call.{Call}
use Rattle.lw_calls.specs.declared.entry.Entry.{Entry}
use Rattle.lw_calls.specs.declared.group.Hold.{Hold}
use Rattle.lw_calls.specs.declared.touch.CallClass.{CallClass}
use Rattle.lw_calls.specs.declared.touch.Role.{Role}
use Rattle.lw_calls.specs.declared.touch.Role.TheVariants.{Task}
use Rattle.lw_calls.specs.Entries.{count_of}
use Rattle.lw_calls.specs.Limits.{call_fits}
use Rattle.lw_calls.specs.Touches.{class_of}
use Rattle.lw_locks.specs.declared.answer.Answer.{Answer}
use Rattle.lw_locks.specs.Promised.{Done, GroupDone, held_roles}
use Rattle.lw_locks.specs.Seen.{SeenPass, SeenHolder}
use Rattle.lw_machine.specs.Desk.{Desk}
use Rattle.lw_order.specs.Promised.{Follows}

-- The call fits the sizes, and the task made so few that this one has a number.
pub record MayCall (desk : Desk) (task : ℕ) (past : List Entry) (call : Call) : Type 0 where
  pub fits : IsTrue (call_fits desk.sizes call)
  pub room : count_of task past < 4294967295

-- The calls, of which there are some, are of this class, and the task may make them one after another.
pub record MayCallEach (desk : Desk) (kind : CallClass) (task : ℕ) (past : List Entry) (calls : List Call) : Type 0 where
  pub class : All (λ c. class_of c ≡ kind) calls
  pub fits : All (λ c. IsTrue (call_fits desk.sizes c)) calls
  pub some : 0 < length calls
  pub room : count_of task past + length calls ≤ 4294967295

-- A pass made a call; or failed, and the call isn't in the history.
pub record Called {E : Type 0} (desk : Desk) (old new : SeenPass) (call : Call) (result : Result Answer E) : Type 0 where
  pub task : new.task ≡ old.task
  pub done : IfOk result (λ a. Done desk (Task old.task ∷ []) old.task old.history new.history call a.reply a.ticket)
  pub failed : OnErr result (Follows (Task old.task ∷ []) old.history new.history)

-- A task that holds all that a call touches made it; or failed, and knows the same history as before.
pub record Stepped {E : Type 0} (desk : Desk) (old new : SeenHolder) (call : Call) (result : Result Answer E) : Type 0 where
  pub task : new.task ≡ old.task
  pub roles : new.seat.roles ≡ old.seat.roles
  pub counted : IfOk result (λ _. count_of old.task new.seat.history ≡ count_of old.task old.seat.history + 1)
  pub done : IfOk result (λ a. Done desk old.seat.roles old.task old.seat.history new.seat.history call a.reply a.ticket)
  pub same : OnErr result (new.seat.history ≡ old.seat.history)

-- A pass made calls as a group that holds this, up to the first that failed.
pub record CalledEach
    {A E : Type 0} (desk : Desk) (hold : Hold) (old new : SeenPass) (calls : List Call) (had has : List Answer)
    (result : Result A E) : Type 0 where
  pub task : new.task ≡ old.task
  pub done : GroupDone desk (Task old.task ∷ [])
      (Task old.task ∷ held_roles desk.sizes.slots hold) old.task old.history new.history calls had has
  pub all : MatchResult result (λ _. length has ≡ length had + length calls) (λ _. length has < length had + length calls)

-- A task made calls, up to the first that failed, once it held these roles.
pub record SteppedEach
    {A E : Type 0} (desk : Desk) (held : List Role) (old new : SeenHolder) (calls : List Call) (had has : List Answer)
    (result : Result A E) : Type 0 where
  pub task : new.task ≡ old.task
  pub roles : new.seat.roles ≡ old.seat.roles
  pub done : GroupDone desk old.seat.roles held old.task old.seat.history new.seat.history calls had has
  pub all : MatchResult result (λ _. length has ≡ length had + length calls) (λ _. length has < length had + length calls)
