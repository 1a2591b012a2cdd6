use Rattle.std.proofs.Common.{◌≡◌, true, [], take}
use Rattle.lw_calls.specs.Orders.{keeps_groups}
use Rattle.lw_calls.specs.Code.OrderState.{progress_after}
use Rattle.lw_calls.proofs.orders.bad_place.Given as goal

abbrev pub invariant-loop-place : goal.invariant-loop-place
invariant-loop-place l = record {
  kept : l.states.items ≡ progress_after l.plan (take l.place l.order);
  keeps : keeps_groups l.plan [] (take l.place l.order) ≡ true;
}
