use Rattle.std.proofs.Common.{◌∙◌, ap}
use Rattle.lw_planes.specs.Bitmap.{row_bytes}
use Rattle.lw_strips.proofs.BlockLaws.{plane_copied}
use Rattle.lw_strips.proofs.block.copy_plane.Goals as goal

pub returns : goal.returns
returns c =
    plane_copied c.args.block c.args.source.now c.args.to.now c.args.plane c.row_bytes.result c.row_bytes-2.result c.width-columns.result c.rows-lines.result.now c.rows_mut.result.now c.copy_lines.new.to
    c.requires.block c.width-columns.ensures.planes.bitmap c.width-columns.ensures.value
    (c.row_bytes.ensures ∙ ap row_bytes c.width-columns.ensures.value) (c.row_bytes-2.ensures ∙ ap row_bytes c.width.ensures.value)
    (c.copy_lines.auto.to ∙ c.rows_mut.ensures.long) c.rows-lines.ensures.bits c.rows_mut.ensures.bits c.copy_lines.ensures
