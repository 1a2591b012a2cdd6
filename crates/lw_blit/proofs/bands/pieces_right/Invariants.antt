use Rattle.std.proofs.Common.{◌≡◌, ◌≤◌, ◌-◌}
use Rattle.lw_draw.specs.Drawn.{drawn}
use Rattle.lw_blit.specs.Blitting.{from_layer, masked}
use Rattle.lw_blit.proofs.bands.pieces_right.Given as goal

abbrev pub invariant-loop-x : goal.invariant-loop-x
invariant-loop-x l = record {
  first : l.fn.columns.from ≤ l.x;
  last : l.x ≤ l.fn.columns.end;
  painted : l.layer ≡ drawn (masked l.mask l.initial.layer l.rows.from l.rows.end l.fn.columns.from l.x) (from_layer l.initial.layer l.transfer) l.initial.layer;
}

abbrev pub decreases-loop-x : goal.decreases-loop-x
decreases-loop-x l = l.fn.columns.end - l.x
