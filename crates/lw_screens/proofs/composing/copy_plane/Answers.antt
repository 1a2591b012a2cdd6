use Rattle.std.proofs.Common.{◌∙◌, ap}
use Rattle.lw_planes.specs.Bitmap.{row_bytes}
use Rattle.lw_screens.proofs.Rows.{plane_laid}
use Rattle.lw_screens.proofs.composing.copy_plane.Goals as goal

pub returns : goal.returns
returns c =
    plane_laid c.args.block c.args.source.now c.args.to.now c.args.plane c.row_bytes.result c.row_bytes-2.result c.rows-lines.result.now c.rows_mut.result.now c.combine_rows.new.to
    c.requires.block c.width.ensures.planes.bitmap
    (c.row_bytes.ensures ∙ ap row_bytes c.width.ensures.value) (c.row_bytes-2.ensures ∙ ap row_bytes c.width-2.ensures.value)
    (c.combine_rows.auto.to ∙ c.rows_mut.ensures.long) c.rows-lines.ensures.bits c.rows_mut.ensures.bits c.combine_rows.ensures
