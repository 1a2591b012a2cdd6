use Rattle.std.proofs.Common.{◌≡◌, ◌<◌, length}
use Rattle.std.specs.List.{All}
use Rattle.lw_screens.specs.Display.{first_with}
use Rattle.lw_screens.proofs.bands.owner_of.Given as goal

abbrev pub invariant-loop-number : goal.invariant-loop-number
invariant-loop-number l = record {
  same : first_with l.screens l.left l.row ≡ first_with l.screens l.order l.row;
  all : All (λ k. k < length l.screens) l.left;
}

abbrev pub decreases-loop-number : goal.decreases-loop-number
decreases-loop-number l = length l.left
