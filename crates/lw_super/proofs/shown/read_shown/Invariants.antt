use Rattle.std.proofs.Common.{◌≡◌, ◌++◌, map, take, drop}
use Rattle.lw_super.specs.Shown.{refilled}
use Rattle.lw_super.proofs.shown.read_shown.Given as goal

abbrev pub invariant-loop-index : goal.invariant-loop-index
invariant-loop-index l = l.strips ≡ map (λ s. refilled l.own l.left l.top s) (take l.index l.initial.strips) ++ drop l.index l.initial.strips
