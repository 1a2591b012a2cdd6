use Rattle.std.proofs.Common.{◌∙◌, pos, ◌-ℤ◌, w64}
use Rattle.std.proofs.lemmas.Int.{to_z-of_z}
use Rattle.lw_region.specs.Order.{natural}
use Rattle.lw_planes.specs.Bitmap.{pen_at}
use Rattle.lw_strips.specs.Blocks.{area_at}
use Rattle.lw_strips.proofs.OverlapLaws.{overlap_laid, off_same}
use Rattle.lw_strips.proofs.overlap.lay_bitmap.Goals as goal

pub returns-in-Some : goal.returns-in-Some
returns-in-Some c =
    let x = to_z-of_z w64 c.args.x c.ranges.x in
    let y = to_z-of_z w64 c.args.y c.ranges.y in
    c.copy_block.ensures ∙ overlap_laid c.args.x c.args.y c.width.result c.height.result c.args.to.now c.args.source.now c.in-Some.block c.width.ensures.value c.height.ensures.value (rw (x, y) at c.in-Some.ensures)

pub returns-in_default : goal.returns-in_default
returns-in_default c =
    let x = to_z-of_z w64 c.args.x c.ranges.x in
    let y = to_z-of_z w64 c.args.y c.ranges.y in
    off_same (area_at c.args.x c.args.y c.args.source.now.width c.args.source.now.height) (λ i j. pen_at c.args.source.now (natural (pos i -ℤ c.args.x)) (natural (pos j -ℤ c.args.y))) c.args.to.now c.depth.ensures.planes.bitmap
    (rw (c.width.ensures.value, c.height.ensures.value, x, y) at c.in_default.ensures)
