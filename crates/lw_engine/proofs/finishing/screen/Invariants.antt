use Rattle.std.proofs.Common.{drop}
use Rattle.lw_engine.specs.Owners.{IsAssembled}
use Rattle.lw_engine.proofs.finishing.screen.Given as goal

abbrev pub invariant-loop-index : goal.invariant-loop-index
invariant-loop-index g l = IsAssembled l.info (drop l.index l.slots) l.planes
