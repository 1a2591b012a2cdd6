-- What the tests of the ranges that a call's numbers have say.
use Rattle.std.proofs.Common.{◌≡◌, ℕ, ◌==◌, ◌<◌, ◌≤◌, Bool, true, false, if◌then◌else◌, ◌&&◌, nat_lt, ℤ, pos, IsTrue, arith}
use Rattle.std.proofs.lemmas.Bool.{ltb-true, and_parts}
use Rattle.std.proofs.lemmas.Bool.Decides.{nat_tests}
use Rattle.std.proofs.lemmas.Int.{ints}
use Rattle.lw_region.specs.Rectangle.{within}
use Rattle.lw_calls.specs.declared.limits.Limits.{Limits}
use Rattle.lw_calls.specs.Limits.{limits_of, is_extent}

-- a width or a height is a size that a layer may have
pub extent_fits : (z : ℤ) → is_extent z ≡ true → within (pos 1) z (pos 65536) ≡ true
unfolding within
extent_fits z h = grind (arith, ints, nat_tests)

-- a number that passes a test with others is below the bound
pub first_low : (n m : ℕ) (rest : Bool) → IsTrue (nat_lt n m && rest) → n < m
first_low n m rest h = ltb-true n m (and_parts (nat_lt n m) rest h).0

-- what holds of each version's limits holds of those of any
each_version : (P : Limits → Type 0) → P (limits_of 1) → P (limits_of 2) → P (limits_of 3) → (version : ℕ) → P (limits_of version)
each_version P one two three version = go (version == 1) (version == 2)
  where
    go : (a b : Bool) → P (if a then limits_of 1 else (if b then limits_of 2 else limits_of 3))
    go true b = one
    go false true = two
    go false false = three

-- No version has a screen of more than 2,048 columns or rows, more than 1,024 layer names, or more than 16,384 calls of a task.
pub screen_at_most : (version : ℕ) → (limits_of version).screen ≤ 2048
screen_at_most = each_version (λ l. l.screen ≤ 2048) (omega arith) (omega arith) (omega arith)

pub names_at_most : (version : ℕ) → (limits_of version).names ≤ 1024
names_at_most = each_version (λ l. l.names ≤ 1024) (omega arith) (omega arith) (omega arith)

pub calls_at_most : (version : ℕ) → (limits_of version).calls ≤ 16384
calls_at_most = each_version (λ l. l.calls ≤ 16384) (omega arith) (omega arith) (omega arith)
