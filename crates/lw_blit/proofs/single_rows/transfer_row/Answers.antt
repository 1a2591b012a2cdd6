use Rattle.std.proofs.Common.{arith}
use Rattle.lw_blit.specs.Blitting.{from_layer}
use Rattle.lw_blit.proofs.LoopLaws.{none_drawable}
use Rattle.lw_blit.proofs.SourceLaws.{row_as_layer}
use Rattle.lw_blit.proofs.single_rows.transfer_row.Goals as goal

pub returns-in_default : goal.returns-in_default
returns-in_default c = none_drawable c.args.layer.now c.args.mask c.args.y c.args.columns.from c.args.columns.end (from_layer c.args.layer.now c.args.transfer) c.depth-planes.ensures.bits.bitmap c.in_default.ensures

pub returns : goal.returns
returns c =
    row_as_layer c.args.layer.now c.paint_row.new.layer c.args.layer.now c.args.transfer c.args.mask c.depth-planes.result c.args.y c.args.columns.from c.args.columns.end c.read_sources.new.rows c.read_sources.ensures (omega (arith, c.depth-planes.ensures.value)) c.paint_row.ensures
