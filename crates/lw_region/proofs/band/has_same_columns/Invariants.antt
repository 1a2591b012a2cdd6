use Rattle.std.proofs.Common.{◌≡◌, length}
use Rattle.lw_region.specs.Rows.{same_columns}
use Rattle.lw_region.proofs.band.has_same_columns.Given as goal

abbrev pub invariant-loop-r : goal.invariant-loop-r
invariant-loop-r l = same_columns l.uppers l.lowers ≡ same_columns l.upper l.lower

abbrev pub decreases-loop-r : goal.decreases-loop-r
decreases-loop-r l = length l.uppers
