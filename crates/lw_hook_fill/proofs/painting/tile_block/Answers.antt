use Rattle.std.proofs.Common.{◌≡◌, ◌+◌, ◌∙◌, ap, arith}
use Rattle.lw_draw.specs.Drawn.{drawn}
use Rattle.lw_draw.proofs.BlockLaws.{block_of_one}
use Rattle.lw_draw.proofs.PaintLaws.{depth_stays, run_stays}
use Rattle.lw_hook_fill.specs.Filling.{tile_bit}
use Rattle.lw_hook_fill.proofs.PaintingLaws.{rows_before, no_rows, row_more, row_near}
use Rattle.lw_hook_fill.proofs.painting.tile_block.Goals as goal

pub loop-row-init : goal.loop-row-init
loop-row-init c = no_rows c.args.layer.now c.args.plane c.args.block c.args.tile.now c.depth.ensures.bits.bitmap

pub overflow_add-y : goal.overflow_add-y
overflow_add-y c =
    let near = row_near c.args.layer.now c.args.block c.loop-row.row c.depth.ensures.bits c.requires.block c.loop-row-test.true in
    omega (arith, near.below)

pub overflow_add-line : goal.overflow_add-line
overflow_add-line c =
    let run = c.requires.block.runs c.loop-row.row c.loop-row-test.true in
    omega (arith, run.there.below, c.step.ensures.high)

pub tile_row-requires-clause-plane : goal.tile_row-requires-clause-plane
tile_row-requires-clause-plane c =
    let same = depth_stays c.args.layer.now c.loop-row.layer (rows_before c.args.plane c.args.block c.loop-row.row) (tile_bit c.args.tile.now) c.loop-row.invariant in
    omega (arith, same, c.requires.plane)

pub tile_row-requires-clause-block : goal.tile_row-requires-clause-block
tile_row-requires-clause-block c =
    let b = c.args.block in
    let n = c.loop-row.row in
    block_of_one c.loop-row.layer (record { x = b.x; y = b.y + n; run = record b.run { line = b.run.line + n } })
    (run_stays c.args.layer.now c.loop-row.layer (rows_before c.args.plane b n) (tile_bit c.args.tile.now) b.x (b.y + n) _ c.loop-row.invariant (c.requires.block.runs n c.loop-row-test.true))

pub tile_row-requires-clause-right : goal.tile_row-requires-clause-right
tile_row-requires-clause-right c = (row_near c.args.layer.now c.args.block c.loop-row.row c.depth.ensures.bits c.requires.block c.loop-row-test.true).right

pub loop-row-preserved : goal.loop-row-preserved
loop-row-preserved c =
    row_more c.args.layer.now c.loop-row.layer c.tile_row.new.layer c.args.plane c.loop-row.row c.args.block c.args.tile.now c.loop-row.invariant c.tile_row.ensures

pub returns : goal.returns
returns c =
    let all : c.loop-row.row ≡ c.args.block.rows = omega arith in
    c.loop-row.invariant ∙ ap (λ n. drawn (rows_before c.args.plane c.args.block n) (tile_bit c.args.tile.now) c.args.layer.now) all
