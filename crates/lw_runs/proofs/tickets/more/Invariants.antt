use Rattle.std.proofs.Common.{◌≡◌, ◌++◌, replicate}
use Rattle.lw_runs.proofs.tickets.more.Given as goal

abbrev pub invariant-loop-zero : goal.invariant-loop-zero
invariant-loop-zero l = l.order.items ≡ l.initial.order.items ++ replicate l._zero 0
