-- The order in which the tasks of a plan make their calls one task after another.
use Rattle.std.specs.Prelude.{◌≡◌, ℕ, true, List, [], length, replicate}
use Rattle.std.specs.List.{flat_map, range_with_len}
use Rattle.lw_calls.specs.Plan.{Plan, task_calls, task_groups}
use Rattle.lw_calls.specs.Orders.{is_legal}
use Rattle.lw_gen.specs.Demo.{demo_plan}

-- all calls of task 0 first, then those of task 1, and so on
abbrev pub in_turn : Plan → List ℕ
in_turn plan = flat_map (λ task. replicate (length (task_calls plan task)) task) (range_with_len 0 plan.sizes.tasks)

-- This order is legal where no task has groups, and so for each demo.
abbrev pub TasksMayGoInTurn : Type 0
TasksMayGoInTurn = (plan : Plan) → ((task : ℕ) → task_groups plan task ≡ []) → is_legal plan (in_turn plan) ≡ true

abbrev pub DemosMayGoInTurn : Type 0
DemosMayGoInTurn = (number tasks : ℕ) → is_legal (demo_plan number tasks) (in_turn (demo_plan number tasks)) ≡ true
