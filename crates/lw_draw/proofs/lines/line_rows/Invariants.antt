use Rattle.std.proofs.Common.{◌≡◌, ◌<◌, pos}
use Rattle.lw_layer.specs.Drafts.{raster_of}
use Rattle.lw_draw.specs.Drawn.{painted}
use Rattle.lw_draw.specs.LineSpans.{on_line_rows}
use Rattle.lw_draw.specs.Walks.{IsWalk}
use Rattle.lw_draw.proofs.lines.line_rows.Given as goal

abbrev pub invariant-loop-y : goal.invariant-loop-y
invariant-loop-y l = record {
  drawn : l.layer ≡ painted (raster_of l.raster) (λ i j. on_line_rows l.initial.layer l.line l.fn.rows.from l.y i j) l.initial.layer;
  walk : l.y < l.fn.rows.end → IsWalk l.line (pos l.y) l.walk;
}
