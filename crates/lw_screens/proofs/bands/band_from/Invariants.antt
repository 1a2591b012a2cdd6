use Rattle.std.proofs.Common.{◌≡◌, ℕ, ◌-◌, ◌<◌, ◌≤◌}
use Rattle.lw_screens.specs.Display.{first_with}
use Rattle.lw_screens.proofs.bands.band_from.Given as goal

abbrev pub invariant-loop-end : goal.invariant-loop-end
invariant-loop-end l = record {
  after : l.first < l.end;
  most : l.end ≤ l.height;
  owned : (y : ℕ) → l.first ≤ y → y < l.end → first_with l.screens l.order y ≡ l.screen;
}

abbrev pub decreases-loop-end : goal.decreases-loop-end
decreases-loop-end l = l.height - l.end
