use Rattle.std.proofs.Common.{◌≡◌, ℕ, ◌<◌, ◌≤◌}
use Rattle.lw_screens.specs.Display.{screen_of, has_row}
use Rattle.lw_screens.proofs.bands.edge_after.Given as goal

abbrev pub invariant-loop-screen : goal.invariant-loop-screen
invariant-loop-screen l = record {
  after : l.row < l.edge;
  most : l.edge ≤ l.limit;
  same : (k y : ℕ) → k < l.screen-index → l.row ≤ y → y < l.edge → has_row (screen_of l.screens k) y ≡ has_row (screen_of l.screens k) l.row;
}
