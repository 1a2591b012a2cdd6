use Rattle.std.proofs.Common.{length}
use Rattle.lw_lines.proofs.lines_area.+push_points.Given as goal

abbrev pub decreases-push_points : goal.decreases-push_points
decreases-push_points l = length l.tokens.now
