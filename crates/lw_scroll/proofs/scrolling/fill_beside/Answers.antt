use Rattle.std.proofs.Common.{◌≡◌, ◌&&◌, ◌∙◌, ap, arith}
use Rattle.lw_kernels.specs.Kernel.{is_between}
use Rattle.lw_layer.specs.View.{draws}
use Rattle.lw_layer.specs.Drafts.{raster_of}
use Rattle.lw_draw.specs.Drawn.{painted_bit, in_mask, in_rows}
use Rattle.lw_draw.proofs.PaintLaws.{layer_nowhere, no_column}
use Rattle.lw_scroll.proofs.scrolling.fill_beside.Goals as goal

pub returns-else-columns : goal.returns-else-columns
returns-else-columns c =
    let v = c.args.layer.now in
    let rows = c.args.rows in
    let columns = c.args.columns in
    let raster = raster_of c.args.raster in
    let none : columns.end ≡ columns.from = let ordered = columns.ordered in omega (arith, ordered) in
    layer_nowhere v (λ p i j. in_mask raster p && in_rows v rows.from rows.end columns.from columns.end i j) (painted_bit raster) c.depth.ensures.bits.bitmap
    (λ p i j.
    ap (λ n. in_mask raster p && (is_between rows.from rows.end j && (is_between columns.from n i && draws v i j))) none ∙
    no_column (in_mask raster p) (is_between rows.from rows.end j) columns.from i (draws v i j))
