use Rattle.std.proofs.Common.{arith}
use Rattle.std.proofs.lemmas.Int.{ints, clamps}
use Rattle.lw_changes.proofs.Hulls.{hull_bounds}
use Rattle.lw_changes.proofs.changes.between.Goals as goal

pub returns : goal.returns
returns c =
    hull_bounds c.new.result c.args.rect.now c.args.other.now _ _ _ _
    (omega (arith, ints, clamps)) (omega (arith, ints, clamps)) (omega (arith, ints, clamps)) (omega (arith, ints, clamps))
    c.new.ensures
