-- What the order word tells of seats that are joined, split and stamped, with what the desk adds.
use Rattle.std.specs.Prelude.{◌≡◌, ℕ, ◌+◌, List, [], ◌∷◌, ◌++◌, All, Contains}
use Rattle.atomic_table.specs.Seated.{TableId}
use Rattle.lw_calls.specs.declared.call.Call.{Call}
use Rattle.lw_calls.specs.declared.entry.Entry.{Entry}
use Rattle.lw_calls.specs.declared.sizes.Sizes.{Sizes}
use Rattle.lw_calls.specs.declared.touch.Role.{Role}
use Rattle.lw_calls.specs.Entries.{count_of}
use Rattle.lw_machine.specs.Desk.{Desk}
use Rattle.lw_order.specs.Numbered.{IsNumbered, TasksBelow, CallsFit}
use Rattle.lw_order.specs.Promised.{Follows, Added}
use Rattle.lw_order.specs.Roles.{without, HasEachOnce}
use Rattle.lw_order.specs.Rule.{IsRoleWithin}
use Rattle.lw_order.specs.Seen.{SeenSeat}
use Rattle.lw_locks.specs.Seen.{SeenHolder}

-- A history that an order word for these sizes may have.
pub record IsHistory (sizes : Sizes) (history : List Entry) : Type 0 where
  pub numbered : IsNumbered history
  pub tasks : TasksBelow sizes.tasks history
  pub fits : CallsFit sizes history

-- A seat was given the roles and the history of another. Its roles are ones of these sizes, none of them twice.
pub record WasJoined (desk : Desk) (mine theirs both : SeenSeat) : Type 0 where
  pub word : both.word ≡ mine.word
  pub roles : both.roles ≡ mine.roles ++ theirs.roles
  pub once : HasEachOnce both.roles
  pub fit : All (IsRoleWithin desk.sizes) both.roles
  pub follows : Follows mine.roles mine.history both.history
  pub other_follows : Follows theirs.roles theirs.history both.history
  pub known : IsHistory desk.sizes both.history

-- A seat knows no less than another, and has its roles too.
pub record IsLonger (mine both : SeenSeat) : Type 0 where
  pub among : (r : Role) → Contains mine.roles r → Contains both.roles r
  pub follows : Follows mine.roles mine.history both.history

-- A task was given the roles and the history of a seat.
pub record Took (desk : Desk) (old : SeenHolder) (theirs : SeenSeat) (new : SeenHolder) : Type 0 where
  pub task : new.task ≡ old.task
  pub joined : WasJoined desk old.seat theirs new.seat

-- A task gave a role away, to a seat of its own.
pub record Gave (name : TableId) (desk : Desk) (off : Role) (old new : SeenHolder) (given : SeenSeat) : Type 0 where
  pub task : new.task ≡ old.task
  pub history : new.seat.history ≡ old.seat.history
  pub roles : new.seat.roles ≡ without off old.seat.roles
  pub word : given.word ≡ name
  pub given_history : given.history ≡ old.seat.history
  pub given_roles : given.roles ≡ off ∷ []
  pub known : IsHistory desk.sizes given.history

-- A call of a task was stamped by a seat.
pub record WasStamped (desk : Desk) (old new : SeenSeat) (task : ℕ) (call : Call) (ticket : ℕ) : Type 0 where
  pub word : new.word ≡ old.word
  pub added : Added old.roles old.history new.history task call ticket
  pub roles : new.roles ≡ old.roles
  pub counted : count_of task new.history ≡ count_of task old.history + 1
  pub known : IsHistory desk.sizes new.history
