-- What a test that a number lies between two bounds says.
use Rattle.std.proofs.Common.{◌≡◌, true, false, ◌&&◌, ℤ, ◌≤ℤ◌, ◌<ℤ◌, arith}
use Rattle.std.specs.Int.{int_max, int_min}
use Rattle.std.proofs.lemmas.Int.{ints}
use Rattle.lw_region.specs.Rectangle.{within}

-- a number between the bounds passes
pub within_true : (low z high : ℤ) → low ≤ℤ z → z ≤ℤ high → within low z high ≡ true
unfolding within
within_true low z high a b = grind (arith, ints)

-- a number below the lower bound fails
pub within_below : (low z high : ℤ) → z <ℤ low → within low z high ≡ false
unfolding within
within_below low z high a = grind (arith, ints)

-- a number above the upper bound fails
pub within_above : (low z high : ℤ) → high <ℤ z → within low z high ≡ false
unfolding within
within_above low z high a = grind (arith, ints)

-- what passes is none below the lower bound
pub within_low : (low z high : ℤ) → within low z high ≡ true → low ≤ℤ z
unfolding within
within_low low z high a = grind (arith, ints)

-- what passes is none above the upper bound
pub within_high : (low z high : ℤ) → within low z high ≡ true → z ≤ℤ high
unfolding within
within_high low z high a = grind (arith, ints)

-- the span that two spans have in common
pub within_both : (a b z c d : ℤ) → within (int_max a b) z (int_min c d) ≡ (within a z c && within b z d)
unfolding within
within_both a b z c d = grind (arith, ints)
