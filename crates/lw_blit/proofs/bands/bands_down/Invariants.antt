use Rattle.std.proofs.Common.{◌≡◌, ◌≤◌, ◌-◌}
use Rattle.lw_draw.specs.Drawn.{drawn}
use Rattle.lw_blit.specs.Blitting.{from_layer, masked}
use Rattle.lw_blit.proofs.bands.bands_down.Given as goal

abbrev pub invariant-loop-y : goal.invariant-loop-y
invariant-loop-y l = record {
  first : l.fn.rows.from ≤ l.y;
  last : l.y ≤ l.fn.rows.end;
  painted : l.layer ≡ drawn (masked l.mask l.initial.layer l.fn.rows.from l.y l.columns.from l.columns.end) (from_layer l.initial.layer l.transfer) l.initial.layer;
}

abbrev pub decreases-loop-y : goal.decreases-loop-y
decreases-loop-y l = l.fn.rows.end - l.y
