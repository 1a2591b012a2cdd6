use Rattle.std.proofs.Common.{◌≡◌, ◌++◌, drop}
use Rattle.lw_machine.specs.Arrangement.{without}
use Rattle.lw_screens.proofs.order.push_others.Given as goal

abbrev pub invariant-loop-other : goal.invariant-loop-other
invariant-loop-other l =
    l.numbers.items ++ without l.number (drop l.other-index l.order) ≡ l.initial.numbers.items ++ without l.number l.order
