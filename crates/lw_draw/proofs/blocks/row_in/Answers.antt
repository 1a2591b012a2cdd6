use Rattle.std.proofs.Common.{◌<◌, arith}
use Rattle.lw_draw.specs.declared.spans.Places.{Places}
use Rattle.lw_draw.proofs.BlockLaws.{known_block, row_of_block}
use Rattle.lw_draw.proofs.blocks.row_in.Goals as goal

pub returns : goal.returns
returns c =
    let columns : Places = c.args.columns in
    let some : columns.from < columns.end = omega (arith, columns.ordered, c.if-columns.false) in
    row_of_block c.args.layer.now c.in-Some.block c.args.y columns (known_block c.args.layer.now c.args.known c.in-Some.block c.in-Some.is c.requires.known)
    (omega (arith, c.if-y-block.false)) (omega (arith, c.if-down-block.false)) (omega (arith, c.if-columns-block.false)) some (omega (arith, c.if-columns-block-2.false))
