use Rattle.std.proofs.Common.{◌≡◌, take}
use Rattle.lw_screens.specs.Display.{placed}
use Rattle.lw_screens.proofs.screens.placed.Given as goal

abbrev pub invariant-loop-number : goal.invariant-loop-number
invariant-loop-number l = l.screens.items ≡ placed (take l.number l.tops) (take l.number l.heights)
