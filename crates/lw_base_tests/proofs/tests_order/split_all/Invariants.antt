use Rattle.std.proofs.Common.{◌≡◌, ℕ, ◌<◌, ◌≤◌, []}
use Rattle.std.specs.Prelude.{All, Contains}
use Rattle.lw_calls.specs.declared.touch.Role.TheVariants.{Task}
use Rattle.lw_calls.specs.Entries.{count_of}
use Rattle.lw_base_tests.proofs.tests_order.split_all.Given as goal

abbrev pub invariant-loop-task : goal.invariant-loop-task
invariant-loop-task l =
    (l.seat.word ≡ l.order.word)
    × (l.seat.history ≡ [])
    × ((t : ℕ) → l.task ≤ t → t < l.tasks → Contains l.seat.roles (Task t))
    × All (λ j. (j.seat.word ≡ l.order.word) × Contains j.seat.roles (Task j.task) × (count_of j.task j.seat.history ≡ 0)) l.jobs.items
