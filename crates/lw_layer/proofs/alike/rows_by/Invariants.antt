use Rattle.std.proofs.Common.{take}
use Rattle.lw_layer.specs.Code.{AreRowsAlike}
use Rattle.lw_layer.proofs.alike.rows_by.Given as goal

abbrev pub invariant-loop-rect : goal.invariant-loop-rect
invariant-loop-rect l = AreRowsAlike (take l.rect-index l.rects) l.row l.most l.rows
