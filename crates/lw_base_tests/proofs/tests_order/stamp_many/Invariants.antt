use Rattle.std.proofs.Common.{◌≡◌}
use Rattle.lw_calls.specs.Entries.{count_of}
use Rattle.lw_base_tests.proofs.tests_order.stamp_many.Given as goal

abbrev pub invariant-loop-i : goal.invariant-loop-i
invariant-loop-i l =
    (l.seat.word ≡ l.initial.seat.word)
    × (l.seat.roles ≡ l.initial.seat.roles)
    × (count_of l.task l.seat.history ≡ l.i)
