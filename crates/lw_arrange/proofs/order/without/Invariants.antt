use Rattle.std.proofs.Common.{◌≡◌, take}
use Rattle.lw_machine.specs.Arrangement.{without}
use Rattle.lw_arrange.proofs.order.without.Given as goal

abbrev pub invariant-loop-other : goal.invariant-loop-other
invariant-loop-other l = l.list.items ≡ without l.slot (take l.other-index l.order)
