use Rattle.std.proofs.Common.{◌∷◌, take, ◌+◌, sym, subst}
use Rattle.lw_c_arrays.specs.Answers.{IsAround}
use Rattle.lw_c_arrays.proofs.AroundLaws.{around_next}
use Rattle.lw_c_arrays.proofs.regions.around.Goals as goal

pub loop-bounds-preserved : goal.loop-bounds-preserved
loop-bounds-preserved c =
    subst (λ z. IsAround (c.args.first ∷ take (c.loop-bounds.bounds-index + 1) c.args.rest.now) z) (sym c.joined-around.ensures)
    (around_next c.args.first c.args.rest.now c.loop-bounds.bounds-index _ c.loop-bounds.around c.loop-bounds-test.true c.loop-bounds.invariant)
