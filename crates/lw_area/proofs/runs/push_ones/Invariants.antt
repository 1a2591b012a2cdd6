use Rattle.std.proofs.Common.{◌≡◌, Bool, false, ℤ, pos, ◌+ℤ◌, ◌-ℤ◌, ◌≤ℤ◌}
use Rattle.lw_region.specs.Order.{natural}
use Rattle.lw_area.proofs.Parts.{OnesUntil}
use Rattle.lw_area.proofs.runs.push_ones.Given as goal

abbrev pub invariant-loop-column : goal.invariant-loop-column
invariant-loop-column l = OnesUntil l.word l.first l.last l.fn.runs.items l.column l.runs.items

abbrev pub decreases-loop-column : goal.decreases-loop-column
decreases-loop-column l = natural (pos 32768 -ℤ l.column)
