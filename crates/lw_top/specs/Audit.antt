-- A report against the machine's.
use Rattle.std.specs.Prelude.{◌≡◌, ◌⊎◌, ℕ, true, List, length}
use Rattle.std.specs.List.{sum_by}
use Rattle.lw_calls.specs.Plan.{Plan}
use Rattle.lw_calls.specs.Orders.{is_legal, IsBadPlace}
use Rattle.lw_machine.specs.Hook.{Hook}
use Rattle.lw_machine.specs.Report.{run_report}
use Rattle.lw_report_order.specs.Differing.{DiffersAt}
use Rattle.lw_report_order.specs.OrderSection.{HasOrder, StopsAt}

-- how many calls a plan has
abbrev pub call_count : Plan → ℕ
call_count plan = sum_by (λ calls. length calls) plan.calls

-- The text is the report of the machine's run of a plan with these hooks in some legal order.
abbrev pub IsMachineReport : List Hook → Plan → List ℕ → Type 0
IsMachineReport hooks plan text = (order : List ℕ) × (is_legal plan order ≡ true) × (text ≡ run_report plan hooks order)

-- The text begins with an order of the plan's calls, of which this is the first bad place.
abbrev pub IsBadReportOrder : Plan → List ℕ → ℕ → Type 0
IsBadReportOrder plan text place = (order : List ℕ) × HasOrder (call_count plan) text order × IsBadPlace plan order place

-- The text begins with a legal order, and this is the first place at which it differs from the machine's report in that order.
pub record DiffersInOrder (hooks : List Hook) (plan : Plan) (text : List ℕ) (place : ℕ) : Type 0 where
  pub order : List ℕ
  pub has : HasOrder (call_count plan) text order
  pub legal : is_legal plan order ≡ true
  pub differs : DiffersAt text (run_report plan hooks order) place

-- The place at which a text isn't the machine's report: it begins with no order for the plan's calls, and stops there; or it
-- differs there from the report in the order with which it begins.
abbrev pub IsDifference : List Hook → Plan → List ℕ → ℕ → Type 0
IsDifference hooks plan text place = StopsAt (call_count plan) text place ⊎ DiffersInOrder hooks plan text place
