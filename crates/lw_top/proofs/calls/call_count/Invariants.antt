use Rattle.std.proofs.Common.{◌≡◌, ◌≤◌, ◌*◌, length, take}
use Rattle.std.specs.List.{sum_by}
use Rattle.lw_top.proofs.calls.call_count.Given as goal

abbrev pub invariant-loop-task : goal.invariant-loop-task
invariant-loop-task l = record {
  counted : l.count ≡ sum_by (λ calls. length calls) (take l.task l.plan.calls);
  few : l.count ≤ l.task * 16384;
}
