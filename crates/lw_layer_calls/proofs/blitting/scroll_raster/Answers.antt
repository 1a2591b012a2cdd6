use Rattle.std.proofs.Common.{to_z-of_z}
use Rattle.lw_layer_calls.proofs.BlittingLaws.{scrolled_step, column_near, row_near}
use Rattle.lw_layer_calls.proofs.blitting.scroll_raster.Goals as goal

pub scroll_raster-requires-clause-left : goal.scroll_raster-requires-clause-left
scroll_raster-requires-clause-left c = rw (to_z-of_z c.ranges.dx) (column_near c.args.dx c.args.dy c.requires).0

pub scroll_raster-requires-clause-right : goal.scroll_raster-requires-clause-right
scroll_raster-requires-clause-right c = rw (to_z-of_z c.ranges.dx) (column_near c.args.dx c.args.dy c.requires).1

pub scroll_raster-requires-clause-up : goal.scroll_raster-requires-clause-up
scroll_raster-requires-clause-up c = rw (to_z-of_z c.ranges.dy) (row_near c.args.dx c.args.dy c.requires).0

pub scroll_raster-requires-clause-down : goal.scroll_raster-requires-clause-down
scroll_raster-requires-clause-down c = rw (to_z-of_z c.ranges.dy) (row_near c.args.dx c.args.dy c.requires).1

pub returns-clause-step : goal.returns-clause-step
returns-clause-step c =
    scrolled_step c.args.layer.now c.scroll_raster.new.layer c.args.dx c.args.dy _ _ c.args.rect.now (to_z-of_z c.ranges.dx) (to_z-of_z c.ranges.dy) c.in_ok-scroll_raster.ensures.done
