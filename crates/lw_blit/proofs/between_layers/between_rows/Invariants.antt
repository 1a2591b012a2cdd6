use Rattle.std.proofs.Common.{◌≡◌, ◌≤◌, ◌-◌}
use Rattle.lw_draw.specs.Drawn.{drawn}
use Rattle.lw_blit.specs.Blitting.{from_bits, taken}
use Rattle.lw_blit.proofs.between_layers.between_rows.Given as goal

abbrev pub invariant-loop-y : goal.invariant-loop-y
invariant-loop-y l = record {
  first : l.fn.rows.from ≤ l.y;
  last : l.y ≤ l.fn.rows.end;
  painted : l.to ≡ drawn (taken l.mask l.initial.to l.source l.area l.fn.rows.from l.y l.columns.from l.columns.end) (from_bits l.source.layer.bits l.area) l.initial.to;
}

abbrev pub decreases-loop-y : goal.decreases-loop-y
decreases-loop-y l = l.fn.rows.end - l.y
