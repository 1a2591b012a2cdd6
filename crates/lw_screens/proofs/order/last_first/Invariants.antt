use Rattle.std.proofs.Common.{◌≡◌, ◌++◌}
use Rattle.lw_screens.specs.Display.{last_first}
use Rattle.lw_screens.proofs.order.last_first.Given as goal

abbrev pub invariant-loop-number : goal.invariant-loop-number
invariant-loop-number l = l.order.items ++ last_first l.number ≡ last_first l.count
