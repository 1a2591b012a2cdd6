use Rattle.std.proofs.Common.{◌∷◌, take}
use Rattle.lw_c_arrays.specs.Answers.{IsAround}
use Rattle.lw_c_arrays.proofs.regions.around.Given as goal

abbrev pub invariant-loop-bounds : goal.invariant-loop-bounds
invariant-loop-bounds l = IsAround (l.fn.first ∷ take l.bounds-index l.rest) l.around
