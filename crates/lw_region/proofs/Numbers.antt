-- Numbers of a span, and tests of equality.
use Rattle.std.proofs.Common.{◌≡◌, ℕ, zero, suc, true, false, ◌||◌, ◌⊎◌, inl, inr, ℤ, pos, negsuc, ◌+ℤ◌, ◌-ℤ◌, ◌≤ℤ◌, ◌<ℤ◌, refl, ap, sym, ◌∙◌, arith, ◌<◌}
use Rattle.std.specs.Prelude.{int_lt, int_le}
use Rattle.std.specs.List.{list_any}
use Rattle.std.specs.Ordering.{int_eq}
use Rattle.std.proofs.lemmas.Int.{ints, by_lt_z}
use Rattle.std.proofs.lemmas.Bool.{false_from_ne_true, false≢true}
use Rattle.std.proofs.lemmas.Bool.Decides.{Decides-int_eq}
use Rattle.lw_region.specs.Rectangle.{within}
use Rattle.lw_region.specs.Order.{natural, count_up, span}
use Rattle.lw_region.proofs.Within.{within_true, within_below, within_above}

-- equal numbers pass the test
pub eq_true : (x y : ℤ) → x ≡ y → int_eq x y ≡ true
eq_true x y e = (Decides-int_eq x y).1 e

-- a smaller number fails it
pub eq_below : (x y : ℤ) → x <ℤ y → int_eq x y ≡ false
eq_below x y h = false_from_ne_true _ (λ t. let e = (Decides-int_eq x y).0 t in absurd (omega (arith, ints)))

-- a larger number fails it
pub eq_above : (x y : ℤ) → y <ℤ x → int_eq x y ≡ false
eq_above x y h = false_from_ne_true _ (λ t. let e = (Decides-int_eq x y).0 t in absurd (omega (arith, ints)))

-- numbers that are neither below the other are equal
pub int_total : (x y : ℤ) → int_lt x y ≡ false → int_lt y x ≡ false → x ≡ y
int_total x y a b = grind (arith, ints)

-- the order of numbers goes on
pub int_trans : (x y z : ℤ) → int_lt x y ≡ true → int_lt y z ≡ true → int_lt x z ≡ true
int_trans x y z a b = grind (arith, ints)

-- so does that with equal ones
pub le_trans : (x y z : ℤ) → x ≤ℤ y → y ≤ℤ z → x ≤ℤ z
le_trans x y z a b = omega (arith, ints)

-- what the strict test says
pub lt_of : (x y : ℤ) → int_lt x y ≡ true → x <ℤ y
lt_of x y a = grind (arith, ints)

-- what the test of no more says
pub le_of : (x y : ℤ) → int_le x y ≡ true → x ≤ℤ y
le_of x y a = grind (arith, ints)

-- the strict test passes where it holds
pub of_lt : (x y : ℤ) → x <ℤ y → int_lt x y ≡ true
of_lt x y a = grind (arith, ints)

-- a number in front of a span
pub within_cons : (z x high : ℤ) → z ≤ℤ high → (int_eq z x || within (z +ℤ pos 1) x high) ≡ within z x high
within_cons z x high h =
    by_lt_z x z
    (λ a. rw (eq_above z x a, within_below (z +ℤ pos 1) x high (omega (arith, ints)), within_below z x high a))
    (λ a. by_lt_z z x
    (λ b. rw (eq_below z x b) (by_lt_z high x
    (λ d. within_above (z +ℤ pos 1) x high d ∙ sym (within_above z x high d))
    (λ d. within_true (z +ℤ pos 1) x high (omega (arith, ints)) d ∙ sym (within_true z x high (omega (arith, ints)) d))))
    (λ b. rw (eq_true z x (omega (arith, ints)), within_true z x high a (omega (arith, ints)))))

-- the numbers that are counted up from z
pub any_count_up : (z : ℤ) (n : ℕ) (x : ℤ) → list_any (λ w. int_eq w x) (count_up z n) ≡ within z x (z +ℤ pos n -ℤ pos 1)
any_count_up z zero x = sym (by_lt_z x z (λ a. within_below _ _ _ a) (λ a. within_above _ _ _ (omega (arith, ints))))
any_count_up z (suc n) x =
    let e : (z +ℤ pos 1) +ℤ pos n -ℤ pos 1 ≡ z +ℤ pos (suc n) -ℤ pos 1 = omega (arith, ints) in
    ap (λ w. int_eq z x || w) (any_count_up (z +ℤ pos 1) n x ∙ ap (λ w. within (z +ℤ pos 1) x w) e)
    ∙ within_cons z x (z +ℤ pos (suc n) -ℤ pos 1) (omega (arith, ints))

-- a number that is not below 0
natural_is : (z : ℤ) → pos 0 ≤ℤ z → pos (natural z) ≡ z
natural_is (pos n) h = refl
natural_is (negsuc n) h = absurd (omega (arith, ints))

-- a number below 0
natural_none : (z : ℤ) → z <ℤ pos 0 → natural z ≡ 0
natural_none (pos n) h = absurd (omega (arith, ints))
natural_none (negsuc n) h = refl

-- a span has the numbers between its bounds
pub any_span : (low high x : ℤ) → list_any (λ w. int_eq w x) (span low high) ≡ within low x high
any_span low high x =
    any_count_up low (natural (high +ℤ pos 1 -ℤ low)) x ∙
    by_lt_z (high +ℤ pos 1 -ℤ low) (pos 0)
    (λ a. let e = natural_none _ a in
    by_lt_z x low (λ b. within_below _ _ _ b ∙ sym (within_below _ _ _ b))
    (λ b. within_above _ _ _ (omega (arith, ints)) ∙ sym (within_above _ _ _ (omega (arith, ints)))))
    (λ a. let e = natural_is _ a in ap (λ w. within low x w) (omega (arith, ints)))

-- numbers that pass the test are equal
pub eq_of : (x y : ℤ) → int_eq x y ≡ true → x ≡ y
eq_of x y e = (Decides-int_eq x y).0 e

-- numbers that fail it are not
pub ne_of : (x y : ℤ) → int_eq x y ≡ false → (x <ℤ y) ⊎ (y <ℤ x)
ne_of x y e =
    by_lt_z x y (λ a. inl a) (λ a. by_lt_z y x (λ b. inr b) (λ b. absurd (false≢true (sym e ∙ eq_true x y (omega (arith, ints))))))

-- a span of one number
pub eq_is_within : (x z : ℤ) → int_eq x z ≡ within x z x
eq_is_within x z =
    by_lt_z x z
    (λ a. eq_below x z a ∙ sym (within_above x z x a))
    (λ a. by_lt_z z x
    (λ b. eq_above x z b ∙ sym (within_below x z x b))
    (λ b. eq_true x z (omega (arith, ints)) ∙ sym (within_true x z x (omega (arith, ints)) (omega (arith, ints)))))

-- what is left up to the end of the range falls
pub natural_falls : (a b : ℤ) → a <ℤ b → b ≤ℤ pos 32768 → natural (pos 32768 -ℤ b) < natural (pos 32768 -ℤ a)
natural_falls a b h k =
    let e = natural_is (pos 32768 -ℤ a) (omega (arith, ints)) in
    let f = natural_is (pos 32768 -ℤ b) (omega (arith, ints)) in
    omega (arith, ints)
