use Rattle.std.proofs.Common.{w32, to_z, of_z, to_z-of_z}
use Rattle.lw_backfill.proofs.Tiles.{row_pens}
use Rattle.lw_backfill.proofs.rows.row_of.Goals as goal

pub returns : goal.returns
returns g c =
    row_pens _ c.args.y (to_z w32 (of_z w32 c.args.y)) (to_z-of_z c.ranges.y)
    c.pen_at.ensures.pen c.pen_at-2.ensures.pen c.pen_at-3.ensures.pen c.pen_at-4.ensures.pen c.pen_at-5.ensures.pen c.pen_at-6.ensures.pen c.pen_at-7.ensures.pen c.pen_at-8.ensures.pen
