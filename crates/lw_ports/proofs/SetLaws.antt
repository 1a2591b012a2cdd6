-- Bits of the numbers that stand for sets of message classes.
use Rattle.std.proofs.Common.{◌≡◌, ◌∙◌, ◌*◌, ◌^◌, ◌<◌, ℕ, zero, suc, max, refl, ap, arith}
use Rattle.std.specs.Prelude.{◌==◌, false, ◌||◌}
use Rattle.std.specs.Int.{bit_at}
use Rattle.std.specs.Int.RustNames.{bit_and, bit_or}
use Rattle.std.proofs.lemmas.Bool.Decides.{nat_tests}
use Rattle.std.proofs.lemmas.Nat.{pow_pos}
use Rattle.std.proofs.lemmas.Nat.Bits.{and_pow, bit_at-zero, bit_at-lt, bit_at_or}
use Rattle.lw_calls.specs.declared.message.Message.{Message}
use Rattle.lw_calls.specs.declared.message.Message.TheVariants.{Refresh, NewSize, Change, Active, Inactive}
use Rattle.lw_machine.specs.Layer.{class_bit}
use Rattle.lw_ports.specs.Sets.{has_class, ClassLaws}

-- a bit in its place is all of that place exactly where it is 1
bit_in_place : (d place : ℕ) → d < 2 → 0 < place → (d * place == place) ≡ (d == 1)
bit_in_place zero place below some = grind (arith, nat_tests)
bit_in_place (suc zero) place below some = grind (arith, nat_tests)
bit_in_place (suc (suc d)) place below some = absurd (omega arith)

-- the number has all of a class's bit exactly where it has the class
pub class_contained : (classes : ℕ) (m : Message) → (bit_and classes (2 ^ class_bit m) == 2 ^ class_bit m) ≡ has_class classes m
class_contained classes m =
    ap (λ x. x == 2 ^ class_bit m) (and_pow classes (class_bit m))
    ∙ bit_in_place (bit_at classes (class_bit m)) (2 ^ class_bit m) (bit_at-lt classes (class_bit m)) (pow_pos (class_bit m))

-- the greater of two bits is 1 exactly where one of them is
greater_bit : (a b : ℕ) → a < 2 → b < 2 → (max a b == 1) ≡ (a == 1 || b == 1)
greater_bit zero b first second = let same : max 0 b ≡ b = omega arith in ap (λ d. d == 1) same
greater_bit (suc zero) zero first second = refl
greater_bit (suc zero) (suc zero) first second = refl
greater_bit (suc zero) (suc (suc b)) first second = absurd (omega arith)
greater_bit (suc (suc a)) b first second = absurd (omega arith)

none_has : (m : Message) → has_class 0 m ≡ false
none_has m = ap (λ d. d == 1) (bit_at-zero (class_bit m))

one_has : (m n : Message) → has_class (2 ^ class_bit m) n ≡ (class_bit n == class_bit m)
one_has Refresh Refresh = refl
one_has Refresh NewSize = refl
one_has Refresh Change = refl
one_has Refresh Active = refl
one_has Refresh Inactive = refl
one_has NewSize Refresh = refl
one_has NewSize NewSize = refl
one_has NewSize Change = refl
one_has NewSize Active = refl
one_has NewSize Inactive = refl
one_has Change Refresh = refl
one_has Change NewSize = refl
one_has Change Change = refl
one_has Change Active = refl
one_has Change Inactive = refl
one_has Active Refresh = refl
one_has Active NewSize = refl
one_has Active Change = refl
one_has Active Active = refl
one_has Active Inactive = refl
one_has Inactive Refresh = refl
one_has Inactive NewSize = refl
one_has Inactive Change = refl
one_has Inactive Active = refl
one_has Inactive Inactive = refl

both_have : (a b : ℕ) (m : Message) → has_class (bit_or a b) m ≡ (has_class a m || has_class b m)
both_have a b m =
    ap (λ d. d == 1) (bit_at_or a b (class_bit m))
    ∙ greater_bit (bit_at a (class_bit m)) (bit_at b (class_bit m)) (bit_at-lt a (class_bit m)) (bit_at-lt b (class_bit m))

pub class_laws : ClassLaws
class_laws = record { none = none_has; one = one_has; both = both_have }
