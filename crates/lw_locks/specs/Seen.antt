-- A pass as contracts see it, and a task while it holds locks.
use Rattle.std.specs.Prelude.{ℕ, List, []}
use Rattle.lw_calls.specs.declared.entry.Entry.{Entry}
use Rattle.lw_order.specs.Seen.{SeenSeat}

-- its task, and the history that it knows
pub record SeenPass : Type 0 where
  pub task : ℕ
  pub history : List Entry

-- a task's pass before its first call
abbrev pub opening_pass : ℕ → SeenPass
opening_pass task = record { task = task; history = [] }

-- a task, and a seat with its role and those of all that it holds
pub record SeenHolder : Type 0 where
  pub task : ℕ
  pub seat : SeenSeat

-- what contracts see of a pass
abbrev pub shown : SeenHolder → SeenPass
shown h = record { task = h.task; history = h.seat.history }
