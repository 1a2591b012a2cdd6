use Rattle.lw_strips.proofs.BlockLaws.{line_combined}
use Rattle.lw_strips.proofs.block.copy_lines.Goals as goal

pub returns-else-block-columns : goal.returns-else-block-columns
returns-else-block-columns c =
    line_combined c.args.block c.args.to_step c.args.source_step c.args.columns c.combine_rows.new.to c.args.source.now c.args.to.now c.requires.wide c.combine_rows.ensures
