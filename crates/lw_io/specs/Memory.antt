-- What the source and the sink over memory hold, and which of their calls fail.
use Rattle.std.specs.Prelude.{ℕ, ◌+◌, ◌<◌, ◌≤◌, min, List, length, Contains}

-- a source over memory: the bytes that are left; how many of them a call moves at most; the numbers
-- of the calls that fail; the number of the next call; and how many calls failed
pub record SourceState : Type 0 where
  pub left : List ℕ
  pub step : ℕ
  pub fails : List ℕ
  pub call : ℕ
  pub faults : ℕ

-- a sink over memory: the bytes that were written; for how many there is room in all; and the rest
-- as at a source
pub record SinkState : Type 0 where
  pub written : List ℕ
  pub room : ℕ
  pub step : ℕ
  pub fails : List ℕ
  pub call : ℕ
  pub faults : ℕ

-- the list has the number of this call, which is below the last value of a u32
abbrev pub IsListed : List ℕ → ℕ → Type 0
IsListed fails call = (call < 4294967295) × Contains fails call

-- there are bytes to write, and all the room is used up
abbrev pub IsFull : SinkState → List ℕ → Type 0
IsFull sink piece = (0 < length piece) × (sink.room ≤ length sink.written)

-- the number of the call after this one: it stands still at the last value of a u32
abbrev pub next_call : ℕ → ℕ
next_call call = min (call + 1) 4294967295

-- the count after one more fault: it stands still at the last value of a u64
abbrev pub one_more_fault : ℕ → ℕ
one_more_fault faults = min (faults + 1) 18446744073709551615
