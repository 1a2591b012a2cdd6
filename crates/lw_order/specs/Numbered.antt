-- Histories in which each task's steps are numbered, and whose tasks and calls fit.
use Rattle.std.specs.Prelude.{◌≡◌, ℕ, ◌<◌, List, [], ◌∷◌, ◌++◌, IsTrue, All}
use Rattle.lw_calls.specs.declared.sizes.Sizes.{Sizes}
use Rattle.lw_calls.specs.declared.entry.Entry.{Entry}
use Rattle.lw_calls.specs.Limits.{call_fits}
use Rattle.lw_calls.specs.Entries.{count_of}

-- after the past, each step's number is that of its task's earlier steps
abbrev pub Numbered : List Entry → List Entry → Type 0
Numbered past [] = Unit {0}
Numbered past (e ∷ es) = (e.seq ≡ count_of e.task past) × Numbered (past ++ e ∷ []) es

-- the steps of each task have the numbers 0, 1, 2, and so on
abbrev pub IsNumbered : List Entry → Type 0
IsNumbered es = Numbered [] es

-- each step is of a task below the number
abbrev pub TasksBelow : ℕ → List Entry → Type 0
TasksBelow tasks es = All (λ e. e.task < tasks) es

-- each step's call fits the sizes
abbrev pub CallsFit : Sizes → List Entry → Type 0
CallsFit sizes es = All (λ e. IsTrue (call_fits sizes e.call)) es
