use Rattle.std.proofs.Common.{length}
use Rattle.lw_area.proofs.Parts.{RunsLeft}
use Rattle.lw_area.proofs.runs.runs_of.Given as goal

abbrev pub decreases-loop-first : goal.decreases-loop-first
decreases-loop-first l = length l.left

abbrev pub invariant-loop-first : goal.invariant-loop-first
invariant-loop-first l = RunsLeft l.word l.columns l.left l.runs.items
