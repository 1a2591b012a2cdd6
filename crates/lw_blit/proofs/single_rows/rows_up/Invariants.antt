use Rattle.std.proofs.Common.{◌≡◌, ◌≤◌}
use Rattle.lw_draw.specs.Drawn.{drawn}
use Rattle.lw_blit.specs.Blitting.{from_layer, masked}
use Rattle.lw_blit.proofs.single_rows.rows_up.Given as goal

abbrev pub invariant-loop-y : goal.invariant-loop-y
invariant-loop-y l = record {
  low : l.fn.rows.from ≤ l.y;
  painted : l.layer ≡ drawn (masked l.mask l.initial.layer l.y l.fn.rows.end l.columns.from l.columns.end) (from_layer l.initial.layer l.transfer) l.initial.layer;
}
