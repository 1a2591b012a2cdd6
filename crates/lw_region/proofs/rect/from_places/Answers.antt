use Rattle.std.proofs.Common.{arith}
use Rattle.std.proofs.lemmas.Int.{ints}
use Rattle.lw_region.proofs.Meet.{same_bounds}
use Rattle.lw_region.proofs.rect.from_places.Goals as goal

pub returns : goal.returns
returns c = (
  record {
    left = (omega (arith, ints), omega (arith, ints));
    top = (omega (arith, ints), omega (arith, ints));
    right = (omega (arith, ints), omega (arith, ints));
    bottom = (omega (arith, ints), omega (arith, ints));
  },
  same_bounds _ _ _ _ _ _ _ _ (omega (arith, ints)) (omega (arith, ints)) (omega (arith, ints)) (omega (arith, ints)),
)
