-- What a legal order tells of the calls of a run, and a report of its order.
use Rattle.std.specs.Prelude.{◌≡◌, ℕ, true, List, [], map}
use Rattle.lw_calls.specs.declared.entry.Entry.{Entry}
use Rattle.lw_calls.specs.Plan.{Plan, IsPlan, task_calls}
use Rattle.lw_calls.specs.Entries.{entries, only_order}
use Rattle.lw_calls.specs.Final.{Final}
use Rattle.lw_calls.specs.Orders.{is_legal}
use Rattle.lw_machine.specs.Report.{report}
use Rattle.lw_apart.specs.TaskSteps.{steps_of, numbered}

-- Each number of an order stands for one step, which is that task's; and of each task the steps are its calls, each once and in
-- their order. A task that the plan hasn't got has none.
pub record StandForCalls (plan : Plan) (order : List ℕ) : Type 0 where
  pub each : map (λ (e : Entry). e.task) (entries plan [] order) ≡ order
  pub calls : (task : ℕ) → steps_of task (entries plan [] order) ≡ numbered task 0 (task_calls plan task)

-- In a legal order each task's calls stand once, and in their order.
abbrev pub CallsStandOnce : Type 0
CallsStandOnce = (plan : Plan) (order : List ℕ) → IsPlan plan → is_legal plan order ≡ true → StandForCalls plan order

-- The only order of a plan of one task is legal, and no other is.
pub record HasOneOrder (plan : Plan) : Type 0 where
  pub legal : is_legal plan (only_order plan) ≡ true
  pub only : (order : List ℕ) → is_legal plan order ≡ true → order ≡ only_order plan

abbrev pub OneTaskHasOneOrder : Type 0
OneTaskHasOneOrder = (plan : Plan) → IsPlan plan → plan.sizes.tasks ≡ 1 → HasOneOrder plan

-- The text of a report tells its order.
abbrev pub ReportsTellTheirOrder : Type 0
ReportsTellTheirOrder =
    (p q : Plan) (a b : List ℕ) (x y : Final) → IsPlan p → IsPlan q → is_legal p a ≡ true → is_legal q b ≡ true
    → report p a x ≡ report q b y → a ≡ b
