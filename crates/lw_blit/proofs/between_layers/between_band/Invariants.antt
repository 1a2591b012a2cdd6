use Rattle.std.proofs.Common.{◌≡◌, ◌+◌, ◌≤◌, ◌-◌}
use Rattle.lw_draw.specs.Drawn.{drawn}
use Rattle.lw_blit.specs.Blitting.{from_bits, taken}
use Rattle.lw_blit.proofs.between_layers.between_band.Given as goal

abbrev pub invariant-loop-stretch : goal.invariant-loop-stretch
invariant-loop-stretch l = record {
  first : l.first ≤ l.x;
  last : l.x ≤ l.end;
  painted : l.to ≡ drawn (taken l.mask l.initial.to l.source l.area l.rows.from l.rows.end l.columns.from (l.columns.from + (l.x - l.first))) (from_bits l.source.layer.bits l.area) l.initial.to;
}

abbrev pub decreases-loop-stretch : goal.decreases-loop-stretch
decreases-loop-stretch l = l.end - l.x
