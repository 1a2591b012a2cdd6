use Rattle.std.proofs.Common.{◌≡◌, ◌≤◌, ◌-◌, ◌&&◌}
use Rattle.lw_draw.specs.Drawn.{drawn, in_rows}
use Rattle.lw_draw.proofs.painting.paint_rows.Given as goal

abbrev pub invariant-loop-y : goal.invariant-loop-y
invariant-loop-y g l = record {
  first : l.rows.from ≤ l.y;
  last : l.y ≤ l.rows.end;
  painted : l.layer ≡ drawn (λ p i j. g.P.Painter.planes l.painter p && in_rows l.initial.layer l.rows.from l.y l.columns.from l.columns.end i j) (g.P.Painter.bit l.painter) l.initial.layer;
}

abbrev pub decreases-loop-y : goal.decreases-loop-y
decreases-loop-y g l = l.rows.end - l.y
