-- Plans whose tasks keep apart, and what all orders of such a plan leave alike.
use Rattle.std.specs.Prelude.{◌≡◌, ℕ, ◌≤◌, true, List, All, ℤ, None}
use Rattle.lw_region.specs.Rectangle.{Rectangle, within}
use Rattle.lw_calls.specs.declared.call.Call.{Call}
use Rattle.lw_calls.specs.declared.call.Call.TheVariants.{Create, ToFront, SetA, ReadPixel, Fill}
use Rattle.lw_calls.specs.Plan.{Plan, IsPlan, task_calls}
use Rattle.lw_calls.specs.Orders.{is_legal}
use Rattle.lw_machine.specs.Hook.{Hook}
use Rattle.lw_machine.specs.Arrangement.{bounds_of}
use Rattle.lw_machine.specs.Finals.{run_final}
use Rattle.lw_gen.specs.Demo.{demo_plan}

-- which task has a slot, and which a column of the screen
pub record Shares : Type 0 where
  pub slot : ℕ → ℕ
  pub column : ℤ → ℕ

-- all columns of these bounds are the task's
abbrev pub OwnsColumns : Shares → ℕ → Rectangle → Type 0
OwnsColumns shares task r = (x : ℤ) → within r.min_x x r.max_x ≡ true → shares.column x ≡ task

-- The call is one of a task that keeps apart: it creates a layer without a hook in columns of the task's own, or brings a layer
-- of the task to the front, sets its pen A, fills in it or reads a pen of it.
abbrev pub IsOwn : Shares → ℕ → Call → Type 0
IsOwn shares task (Create slot make) = (shares.slot slot ≡ task) × (make.hook ≡ None) × OwnsColumns shares task (bounds_of make)
IsOwn shares task (ToFront slot) = shares.slot slot ≡ task
IsOwn shares task (SetA slot pen) = shares.slot slot ≡ task
IsOwn shares task (Fill slot rect) = shares.slot slot ≡ task
IsOwn shares task (ReadPixel slot x y) = shares.slot slot ≡ task
IsOwn shares task call = ⊥

-- Each task of the plan keeps apart from the others.
pub record KeepsApart (plan : Plan) : Type 0 where
  pub shares : Shares
  pub own : (task : ℕ) → All (IsOwn shares task) (task_calls plan task)

-- Two orders leave the same screen, so the same number of pixels of each pen, and each task has the same replies.
pub record LeavesTheSame (plan : Plan) (hooks : List Hook) (a b : List ℕ) : Type 0 where
  pub screen : (run_final plan hooks a).planes ≡ (run_final plan hooks b).planes
  pub replies : (run_final plan hooks a).replies ≡ (run_final plan hooks b).replies

-- Where the tasks of a plan keep apart, no legal order shows.
abbrev pub ApartTasksShowNoOrder : Type 0
ApartTasksShowNoOrder =
    (plan : Plan) (hooks : List Hook) (a b : List ℕ) → IsPlan plan → KeepsApart plan → is_legal plan a ≡ true
    → is_legal plan b ≡ true → LeavesTheSame plan hooks a b

-- No legal order of a demo's plan shows.
abbrev pub DemosShowNoOrder : Type 0
DemosShowNoOrder =
    (number tasks : ℕ) (hooks : List Hook) (a b : List ℕ) → 1 ≤ tasks → tasks ≤ 16 → is_legal (demo_plan number tasks) a ≡ true
    → is_legal (demo_plan number tasks) b ≡ true
    → LeavesTheSame (demo_plan number tasks) hooks a b
