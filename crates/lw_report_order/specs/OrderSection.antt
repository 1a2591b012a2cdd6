-- The order section of a report: which bytes begin with one, and how far others begin one.
use Rattle.std.specs.Prelude.{◌≡◌, ◌⊎◌, ◌<◌, ◌≤◌, ◌+◌, ℕ, List, length, take, ◌++◌}
use Rattle.std.specs.List.{AllByRecursion}
use Rattle.lw_machine.specs.Report.{order_part}

-- so many numbers of tasks, each below 16
pub record AreTasks (count : ℕ) (numbers : List ℕ) : Type 0 where
  pub many : length numbers ≡ count
  pub below : AllByRecursion (λ n. n < 16) numbers

-- An order section for so many calls: the first part of a report of some numbers of tasks, one for each call.
abbrev pub IsOrderSection : ℕ → List ℕ → Type 0
IsOrderSection count text = (numbers : List ℕ) × AreTasks count numbers × (text ≡ order_part numbers)

-- the bytes begin an order section: some bytes behind them make it one
abbrev pub BeginsSection : ℕ → List ℕ → Type 0
BeginsSection count bytes = (more : List ℕ) × IsOrderSection count (bytes ++ more)

-- The order section of these numbers is a prefix of the bytes, and this is the rest.
pub record HasOrder (count : ℕ) (bytes numbers : List ℕ) : Type 0 where
  pub tasks : AreTasks count numbers
  pub rest : List ℕ
  pub is : bytes ≡ order_part numbers ++ rest

-- No order section for so many calls is a prefix of the bytes, and the longest prefix that begins one has n bytes.
pub record StopsAt (count : ℕ) (bytes : List ℕ) (n : ℕ) : Type 0 where
  pub none : (numbers : List ℕ) → HasOrder count bytes numbers → ⊥
  pub within : n ≤ length bytes
  pub begins : BeginsSection count (take n bytes)
  pub ends : (n ≡ length bytes) ⊎ (BeginsSection count (take (n + 1) bytes) → ⊥)
