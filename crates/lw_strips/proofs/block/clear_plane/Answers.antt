use Rattle.std.proofs.Common.{◌∙◌, ap}
use Rattle.lw_planes.specs.Bitmap.{row_bytes}
use Rattle.lw_strips.proofs.BlockLaws.{plane_cleared}
use Rattle.lw_strips.proofs.block.clear_plane.Goals as goal

pub returns : goal.returns
returns c =
    plane_cleared c.args.block c.args.to.now c.args.plane c.row_bytes-step.result c.rows_mut.result.now c.fill_rows.new.bytes
    c.requires.block c.width.ensures.planes.bitmap (c.row_bytes-step.ensures ∙ ap row_bytes c.width.ensures.value) (c.fill_rows.auto.bytes ∙ c.rows_mut.ensures.long) c.rows_mut.ensures.bits c.fill_rows.ensures
