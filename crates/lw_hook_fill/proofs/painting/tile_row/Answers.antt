use Rattle.lw_hook_fill.proofs.PaintingLaws.{row_of_byte}
use Rattle.lw_hook_fill.proofs.painting.tile_row.Goals as goal

pub returns : goal.returns
returns c = row_of_byte c.args.layer.now c.combine_block.new.layer c.args.plane c.args.byte c.args.block c.requires.one c.requires.right c.combine_block.ensures
