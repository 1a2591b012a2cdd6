use Rattle.std.proofs.Common.{◌≡◌, ◌-◌, ◌≤◌, ◌++◌}
use Rattle.lw_screens.specs.Display.{first_with}
use Rattle.lw_screens.specs.Bands.{bands_from}
use Rattle.lw_screens.proofs.bands.bands_of.Given as goal

abbrev pub invariant-loop-first : goal.invariant-loop-first
invariant-loop-first l = record {
  most : l.first ≤ l.height;
  bands : l.bands.items ++ bands_from (first_with l.screens l.order) l.first (l.height - l.first) ≡ bands_from (first_with l.screens l.order) 0 l.height;
}

abbrev pub decreases-loop-first : goal.decreases-loop-first
decreases-loop-first l = l.height - l.first
