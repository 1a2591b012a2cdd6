-- What the definitions of displays promise.
use Rattle.std.specs.Prelude.{◌≡◌, ◌≢◌, ℕ, ◌+◌, ◌<◌, ◌≤◌, nat_lt, if◌then◌else◌, List, [], ◌∷◌, length, Option}
use Rattle.std.specs.List.{All}
use Rattle.lw_calls.specs.Orders.{occurrences}
use Rattle.lw_screens.specs.Display.{Display, owner_of, after_all, acted_on, opened}
use Rattle.lw_screens.specs.Bands.{bands_of}
use Rattle.lw_screens.specs.declared.act.Act.{Act}
use Rattle.lw_screens.specs.declared.bands.Band.{Band}

-- A longest run of the rows before `end` whose first row is y: its rows have one owner, and the row after it another one.
pub record IsLongestRun (owner : ℕ → Option ℕ) (y end : ℕ) (b : Band) : Type 0 where
  pub first : b.first ≡ y
  pub order : b.first ≤ b.last
  pub inside : b.last < end
  pub owned : (z : ℕ) → b.first ≤ z → z ≤ b.last → owner z ≡ b.screen
  pub longest : b.last + 1 < end → owner (b.last + 1) ≢ b.screen

-- the bands are longest runs, one after another, of the rows from row y to the last before `end`
abbrev pub AreLongestRuns : (ℕ → Option ℕ) → ℕ → ℕ → List Band → Type 0
AreLongestRuns owner y end [] = y ≡ end
AreLongestRuns owner y end (b ∷ bs) = IsLongestRun owner y end b × AreLongestRuns owner (b.last + 1) end bs

-- The bands of a display are the longest runs of its rows with one owner, one after another from the top.
abbrev pub BandsAreLongestRuns : Display → Type 0
BandsAreLongestRuns d = AreLongestRuns (owner_of d) 0 d.height (bands_of d)

-- the order of a display has the number of each of its screens once, and no other number
abbrev pub HasEachScreenOnce : Display → Type 0
HasEachScreenOnce d = (k : ℕ) → occurrences k d.order ≡ (if nat_lt k (length d.screens) then 1 else 0)

-- Whatever acts are done on the screens of a display that was opened, its order has the number of each screen once.
abbrev pub OrdersHaveEachScreenOnce : Type 0
OrdersHaveEachScreenOnce =
    (height : ℕ) (tops heights : List ℕ) (acts : List Act) → length heights ≡ length tops
    → All (λ act. acted_on act < length tops) acts → HasEachScreenOnce (after_all acts (opened height tops heights))
