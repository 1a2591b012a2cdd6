use Rattle.std.proofs.Common.{◌≡◌, ◌++◌, take}
use Rattle.lw_arrange.specs.Pieces.{losses_to}
use Rattle.lw_arrange.proofs.pieces.add_losses.Given as goal

abbrev pub invariant-loop-part : goal.invariant-loop-part
invariant-loop-part l = l.pieces.items ≡ l.initial.pieces.items ++ losses_to l.from l.lost (take l.part-index l.gaining)
