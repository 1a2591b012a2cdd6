use Rattle.std.proofs.Common.{◌≡◌, List, length}
use Rattle.lw_calls.specs.declared.entry.Entry.{Entry}
use Rattle.lw_order.specs.Numbered.{TasksBelow}
use Rattle.lw_runs.specs.Whole.{AreTickets, order_below}
use Rattle.lw_runs.proofs.tickets.order_by.Given as goal

abbrev pub invariant-loop-task : goal.invariant-loop-task
invariant-loop-task l = (es : List Entry) → AreTickets es l.all → TasksBelow (length l.all) es → l.order.items ≡ order_below l.task es
