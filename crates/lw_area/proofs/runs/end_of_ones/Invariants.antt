use Rattle.std.proofs.Common.{◌≡◌, true, ℤ, pos, ◌+ℤ◌, ◌-ℤ◌, ◌≤ℤ◌, ◌<ℤ◌}
use Rattle.lw_region.specs.Order.{natural}
use Rattle.lw_area.specs.Patterns.{word_has}
use Rattle.lw_area.proofs.runs.end_of_ones.Given as goal

abbrev pub invariant-loop-end : goal.invariant-loop-end
invariant-loop-end l =
    (l.first <ℤ l.end) × (l.end ≤ℤ (l.last +ℤ pos 1)) × ((x : ℤ) → l.first ≤ℤ x → x <ℤ l.end → word_has l.word x ≡ true)

abbrev pub decreases-loop-end : goal.decreases-loop-end
decreases-loop-end l = natural (l.last +ℤ pos 1 -ℤ l.end)
