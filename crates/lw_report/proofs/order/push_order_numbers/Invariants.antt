use Rattle.std.proofs.Common.{◌≡◌, ◌++◌, drop}
use Rattle.lw_machine.specs.Report.{order_numbers}
use Rattle.lw_report.proofs.order.push_order_numbers.Given as goal

abbrev pub invariant-loop-above : goal.invariant-loop-above
invariant-loop-above l = l.out.items ++ order_numbers l.above (drop l.above l.order) ≡ l.initial.out.items ++ order_numbers 0 l.order
