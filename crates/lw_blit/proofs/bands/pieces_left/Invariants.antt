use Rattle.std.proofs.Common.{◌≡◌, ◌≤◌, ◌-◌}
use Rattle.lw_draw.specs.Drawn.{drawn}
use Rattle.lw_blit.specs.Blitting.{from_layer, masked}
use Rattle.lw_blit.proofs.bands.pieces_left.Given as goal

abbrev pub invariant-loop-end : goal.invariant-loop-end
invariant-loop-end l = record {
  first : l.fn.columns.from ≤ l.end;
  last : l.end ≤ l.fn.columns.end;
  painted : l.layer ≡ drawn (masked l.mask l.initial.layer l.rows.from l.rows.end l.end l.fn.columns.end) (from_layer l.initial.layer l.transfer) l.initial.layer;
}

abbrev pub decreases-loop-end : goal.decreases-loop-end
decreases-loop-end l = l.end - l.fn.columns.from
