use Rattle.std.proofs.Common.{take}
use Rattle.lw_area.specs.Rows.{AreColumns}
use Rattle.lw_area.proofs.columns.put_columns.Given as goal

abbrev pub invariant-loop-edge : goal.invariant-loop-edge
invariant-loop-edge l = AreColumns (take l.edge-index l.edges) l.row l.columns.items
