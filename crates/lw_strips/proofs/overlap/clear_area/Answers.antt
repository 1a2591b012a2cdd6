use Rattle.std.proofs.Common.{◌∙◌, w64}
use Rattle.std.proofs.lemmas.Int.{to_z-of_z}
use Rattle.lw_strips.specs.Blocks.{area_at}
use Rattle.lw_strips.proofs.OverlapLaws.{overlap_cleared, off_same}
use Rattle.lw_strips.proofs.overlap.clear_area.Goals as goal

pub returns-in-Some : goal.returns-in-Some
returns-in-Some c =
    let x = to_z-of_z w64 c.args.x c.ranges.x in
    let y = to_z-of_z w64 c.args.y c.ranges.y in
    c.clear_block.ensures ∙ overlap_cleared c.args.x c.args.y c.args.width c.args.height c.args.to.now c.in-Some.block (rw (x, y) at c.in-Some.ensures)

pub returns-in_default : goal.returns-in_default
returns-in_default c =
    let x = to_z-of_z w64 c.args.x c.ranges.x in
    let y = to_z-of_z w64 c.args.y c.ranges.y in
    off_same (area_at c.args.x c.args.y c.args.width c.args.height) (λ _ _. 0) c.args.to.now c.depth.ensures.planes.bitmap (rw (x, y) at c.in_default.ensures)
