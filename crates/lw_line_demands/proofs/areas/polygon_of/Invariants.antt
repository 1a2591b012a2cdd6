use Rattle.std.proofs.Common.{◌≡◌, map, take}
use Rattle.lw_statements.specs.StatementMeaning.{point_meaning}
use Rattle.lw_line_demands.proofs.areas.polygon_of.Given as goal

abbrev pub invariant-loop-point : goal.invariant-loop-point
invariant-loop-point l = l.corners.items ≡ map point_meaning (take l.point-index l.points)
