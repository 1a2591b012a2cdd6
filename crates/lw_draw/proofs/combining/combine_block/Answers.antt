use Rattle.std.proofs.Common.{◌∙◌}
use Rattle.lw_draw.proofs.CombineLaws.{block_combined}
use Rattle.lw_draw.proofs.combining.combine_block.Goals as goal

pub returns : goal.returns
returns c =
    let v = c.args.layer.now in
    block_combined v c.args.plane c.args.minterm c.step-own_step.result c.args.step c.args.bit c.args.block c.args.bytes.now c.lines_mut-own.result.now c.combine_rows.new.to c.lines_mut-own.ensures.planes.bitmap c.step-own_step.ensures.value (c.combine_rows.auto.to ∙ c.lines_mut-own.ensures.long) c.requires.block c.lines_mut-own.ensures.bits c.combine_rows.ensures
