use Rattle.std.proofs.Common.{◌≡◌, ◌<◌, ◌≤◌, max, drop}
use Rattle.lw_screens.specs.Composed.{greatest_depth}
use Rattle.lw_screens.proofs.composing.greatest_depth.Given as goal

abbrev pub invariant-loop-each : goal.invariant-loop-each
invariant-loop-each l = record {
  value : max l.depth (greatest_depth (drop l.each-index l.planes)) ≡ greatest_depth l.planes;
  some : 0 < l.each-index → 1 ≤ l.depth;
  most : l.depth ≤ 8;
}
