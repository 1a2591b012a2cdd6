-- What a seat learns of the history.
use Rattle.std.specs.Prelude.{◌≡◌, ℕ, List, [], ◌∷◌, ◌++◌, length, if◌then◌else◌, nat_lt}
use Rattle.lw_calls.specs.declared.call.Call.{Call}
use Rattle.lw_calls.specs.declared.entry.Entry.{Entry}
use Rattle.lw_calls.specs.declared.touch.Role.{Role}
use Rattle.lw_calls.specs.Entries.{count_of}
use Rattle.lw_order.specs.Roles.{Quiet}

-- the longer of two histories
abbrev pub longer : List Entry → List Entry → List Entry
longer a b = if nat_lt (length a) (length b) then b else a

-- the new history goes on from the old one, and none of its further steps touches one of the roles
pub record Follows (roles : List Role) (old new : List Entry) : Type 0 where
  pub rest : List Entry
  pub prefix : new ≡ old ++ rest
  pub quiet : Quiet roles rest

-- A call of a task was stamped: the new history goes on from the old one by steps that touch none of the roles, and
-- ends in the call's own step. The ticket is that step's place.
pub record Added (roles : List Role) (old new : List Entry) (task : ℕ) (call : Call) (ticket : ℕ) : Type 0 where
  pub between : List Entry
  pub history : new ≡ (old ++ between) ++ record { task = task; seq = count_of task (old ++ between); call = call } ∷ []
  pub quiet : Quiet roles between
  pub place : ticket ≡ length (old ++ between)
