use Rattle.std.proofs.Common.{◌≡◌, ◌+◌, ◌≤◌, ◌-◌, ◌&&◌}
use Rattle.lw_draw.specs.Drawn.{drawn, in_rows}
use Rattle.lw_draw.proofs.painting.paint_band.Given as goal

abbrev pub invariant-loop-stretch : goal.invariant-loop-stretch
invariant-loop-stretch g l = record {
  first : l.columns.from ≤ l.x;
  last : l.x ≤ l.columns.end;
  painted : l.layer ≡ drawn (λ p i j. g.P.Painter.planes l.painter p && in_rows l.initial.layer l.y (l.y + l.rows) l.columns.from l.x i j) (g.P.Painter.bit l.painter) l.initial.layer;
}

abbrev pub decreases-loop-stretch : goal.decreases-loop-stretch
decreases-loop-stretch g l = l.columns.end - l.x
