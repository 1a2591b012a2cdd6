use Rattle.std.proofs.Common.{◌≡◌, drop}
use Rattle.lw_strips.specs.Laying.{with_strips}
use Rattle.lw_strips.proofs.laying.lay_all.Given as goal

abbrev pub invariant-loop-index : goal.invariant-loop-index
invariant-loop-index l = l.planes ≡ with_strips l.window (drop l.index l.strips) l.initial.planes
