use Rattle.lw_layer.specs.View.{draws}
use Rattle.lw_blit.proofs.PaintingLaws.{rows_give_bits, in_columns}
use Rattle.lw_blit.proofs.painting.paint_row.Goals as goal

pub paint_rows-requires-clause-bits : goal.paint_rows-requires-clause-bits
paint_rows-requires-clause-bits c = rows_give_bits c.args.minterm c.args.rows.now c.args.columns.from

pub paint_rows-requires-clause-reached : goal.paint_rows-requires-clause-reached
paint_rows-requires-clause-reached c i j on = in_columns (draws c.args.layer.now i j) c.args.y c.args.columns.from c.args.columns.end i j c.requires.right on

pub returns : goal.returns
returns c = c.paint_rows.ensures
