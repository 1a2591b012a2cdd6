use Rattle.std.proofs.Common.{◌==◌, ◌-◌, ◌&&◌, arith}
use Rattle.lw_draw.specs.Blocks.{in_block, block_bit}
use Rattle.lw_draw.proofs.BlockLaws.{block_stays}
use Rattle.lw_draw.proofs.PaintLaws.{depth_stays}
use Rattle.lw_blit.specs.Blitting.{plane_of}
use Rattle.lw_blit.proofs.PaintingLaws.{plane_full, plane_in_parts}
use Rattle.lw_blit.proofs.painting.blit_row.Goals as goal

pub combine_block-requires-else-rows-2-clause-plane : goal.combine_block-requires-else-rows-2-clause-plane
combine_block-requires-else-rows-2-clause-plane c =
    let b = c.args.block in
    let same = depth_stays c.args.layer.now c.combine_block-else-rows.new.layer (λ p i j. p == c.args.plane && in_block b i j) (block_bit c.where_set-set.result (plane_of c.args.rows.now c.args.plane) 256 (b.x - c.args.first) b) c.combine_block-else-rows.ensures in
    omega (arith, same, c.requires.plane)

pub combine_block-requires-else-rows-2-clause-block : goal.combine_block-requires-else-rows-2-clause-block
combine_block-requires-else-rows-2-clause-block c =
    let b = c.args.block in
    block_stays c.args.layer.now c.combine_block-else-rows.new.layer (λ p i j. p == c.args.plane && in_block b i j) (block_bit c.where_set-set.result (plane_of c.args.rows.now c.args.plane) 256 (b.x - c.args.first) b) b c.combine_block-else-rows.ensures c.requires.block

pub returns-then-rows : goal.returns-then-rows
returns-then-rows c =
    plane_full c.args.layer.now c.combine_block.new.layer c.args.plane c.args.minterm c.args.first c.args.block c.args.rows.now c.if-rows.true c.requires.one c.requires.starts c.combine_block.ensures

pub returns-else-rows : goal.returns-else-rows
returns-else-rows c =
    plane_in_parts c.args.layer.now c.combine_block-else-rows.new.layer c.combine_block-else-rows-2.new.layer c.args.plane c.args.minterm c.where_set-set.result c.where_clear-clear.result c.args.first c.args.block c.args.rows.now c.combine.new.to
    (record { of_set = c.where_set-set.ensures.set; kept = c.where_set-set.ensures.clear; of_clear = c.where_clear-clear.ensures.set; left = c.where_clear-clear.ensures.clear })
    c.if-rows.false c.requires.one c.requires.starts c.combine.ensures.each c.combine_block-else-rows.ensures c.combine_block-else-rows-2.ensures
