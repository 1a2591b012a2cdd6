-- What reading a report's order answers.
use Rattle.std.specs.Prelude.{◌≡◌, ℕ, List, Result, Ok, Err}
use Rattle.lw_report_order.specs.OrderSection.{HasOrder, StopsAt}
use Rattle.lw_report_order.specs.declared.order_stop.OrderStop.{OrderStop}
use Rattle.lw_report_order.specs.declared.order_stop.OrderStop.TheVariants.{Place, Memory}

-- The answer is what was read, unless memory ran out.
abbrev pub GivesOrder : Result (List ℕ) OrderStop → Result (List ℕ) ℕ → Type 0
GivesOrder (Ok numbers) read = read ≡ Ok numbers
GivesOrder (Err (Place n)) read = read ≡ Err n
GivesOrder (Err Memory) read = Unit {0}

-- The answer tells the order that bytes have, or the place at which they stop; or memory ran out.
abbrev pub ReadsOrder : ℕ → List ℕ → Result (List ℕ) OrderStop → Type 0
ReadsOrder count bytes (Ok numbers) = HasOrder count bytes numbers
ReadsOrder count bytes (Err (Place n)) = StopsAt count bytes n
ReadsOrder count bytes (Err Memory) = Unit {0}

-- The answer is these numbers, and the answer is this place, unless memory ran out.
abbrev pub OrderIs : List ℕ → Result (List ℕ) OrderStop → Type 0
OrderIs wanted (Ok numbers) = numbers ≡ wanted
OrderIs wanted (Err (Place n)) = ⊥
OrderIs wanted (Err Memory) = Unit {0}

abbrev pub PlaceIs : ℕ → Result (List ℕ) OrderStop → Type 0
PlaceIs wanted (Ok numbers) = ⊥
PlaceIs wanted (Err (Place n)) = n ≡ wanted
PlaceIs wanted (Err Memory) = Unit {0}
