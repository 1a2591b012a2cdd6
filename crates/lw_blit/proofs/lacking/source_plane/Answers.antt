use Rattle.std.proofs.Common.{arith}
use Rattle.lw_blit.proofs.BitmapLaws.{lacked_value}
use Rattle.lw_blit.proofs.lacking.source_plane.Goals as goal

pub returns-clause-value : goal.returns-clause-value
returns-clause-value c pen old deep small = lacked_value c.without_source.result c.args.minterm c.args.depth c.args.plane pen old deep (omega arith) small c.without_source.ensures 0
