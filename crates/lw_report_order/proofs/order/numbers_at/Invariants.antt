use Rattle.std.proofs.Common.{◌≡◌, ◌≤◌, ◌-◌, [], length, drop}
use Rattle.lw_report_order.specs.OrderReading.{numbers_read, onto}
use Rattle.lw_report_order.proofs.order.numbers_at.Given as goal

-- the numbers so far, and what is read from the place on, are what is read from the first place on
abbrev pub invariant-loop-above : goal.invariant-loop-above
invariant-loop-above l = record {
  within : l.place ≤ length l.bytes;
  read : onto l.tasks.items l.place (numbers_read l.above (l.count - l.above) (drop l.place l.bytes)) ≡ onto [] l.first (numbers_read 0 l.count (drop l.first l.bytes));
}
