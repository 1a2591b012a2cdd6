use Rattle.std.proofs.Common.{◌≡◌, take}
use Rattle.lw_strips.specs.Pools.{copies_in}
use Rattle.lw_strips.proofs.pool.place_of.Given as goal

abbrev pub invariant-loop-index : goal.invariant-loop-index
invariant-loop-index l = copies_in l.rect (take l.index l.strips) ≡ 0
