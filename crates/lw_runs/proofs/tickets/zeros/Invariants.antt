use Rattle.std.proofs.Common.{◌≡◌, List, replicate}
use Rattle.lw_calls.specs.declared.entry.Entry.{Entry}
use Rattle.lw_runs.specs.Whole.{AreTickets, count_below}
use Rattle.lw_runs.proofs.tickets.zeros.Given as goal

abbrev pub invariant-loop-told : goal.invariant-loop-told
invariant-loop-told l = (es : List Entry) → AreTickets es l.all → l.order.items ≡ replicate (count_below l.told-index es) 0
