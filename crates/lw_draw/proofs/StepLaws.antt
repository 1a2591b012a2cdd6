-- Laws of how far a line has moved after some steps: a rounded quotient, turned into comparisons of products.
use Rattle.std.proofs.Common.{◌≡◌, ℕ, suc, ◌+◌, ◌-◌, ◌*◌, ◌/◌, ◌==◌, ◌<◌, ◌≤◌, nat_le, true, false, ◌∙◌, sym, ap, ⊎_elim, arith}
use Rattle.std.proofs.lemmas.Bool.{cases_lt}
use Rattle.std.proofs.lemmas.Bool.Decides.{nat_tests}
use Rattle.std.proofs.Math.Nat.{div-lt_iff_lt-mul, mul_assoc, mul_comm, suc-mul, mul-le-mul_right}
use Rattle.lw_machine.specs.Shapes.{line_offset}

-- comparisons that hold together
same_test : (a b c d : ℕ) → (a < b + 1 → c ≤ d) → (c ≤ d → a < b + 1) → nat_le a b ≡ nat_le c d
same_test a b c d one other = grind (arith, nat_tests)

-- a product with a doubled factor
doubled : (a b : ℕ) → a * (2 * b) ≡ 2 * (a * b)
doubled a b = sym (mul_assoc a 2 b) ∙ (ap (λ t. t * b) (mul_comm a 2) ∙ mul_assoc 2 a b)

pub one_more : (a b : ℕ) → (a + 1) * b ≡ a * b + b
one_more a b = let e : a + 1 ≡ suc a = omega arith in ap (λ t. t * b) e ∙ suc-mul a b

spread : (a b : ℕ) → 2 * (a + b) ≡ 2 * a + 2 * b
spread a b = omega arith

-- the offset as a quotient
pub offset_is : (n m i : ℕ) → 0 < n → line_offset n m i ≡ (2 * (i * m) + n) / (2 * n)
unfolding line_offset
offset_is n m i some =
    let nonzero : (n == 0) ≡ false = grind (arith, nat_tests) in
    rw nonzero (ap (λ t. (t + n) / (2 * n)) (mul_assoc 2 i m))

-- a line has moved this far
offset_test : (n m i k : ℕ) → 0 < n → nat_le k (line_offset n m i) ≡ nat_le (2 * (n * k)) (2 * (i * m) + n)
offset_test n m i k some =
    let both = div-lt_iff_lt-mul {k = 2 * n} {x = 2 * (i * m) + n} {y = k} (omega arith) in
    let product : k * (2 * n) ≡ 2 * (n * k) = doubled k n ∙ ap (λ t. 2 * t) (mul_comm k n) in
    ap (λ t. nat_le k t) (offset_is n m i some) ∙
    ⊎_elim
    (λ (less : (2 * (i * m) + n) / (2 * n) < k). let low : 2 * (i * m) + n < k * (2 * n) = both.0 less in grind (arith, nat_tests))
    (λ (more : k ≤ (2 * (i * m) + n) / (2 * n)).
    let high : k * (2 * n) ≤ 2 * (i * m) + n =
    ⊎_elim (λ (low : 2 * (i * m) + n < k * (2 * n)). let less = both.1 low in omega (arith, less, more)) (λ (is : k * (2 * n) ≤ 2 * (i * m) + n). is) (cases_lt (2 * (i * m) + n) (k * (2 * n))) in
    grind (arith, nat_tests))
    (cases_lt ((2 * (i * m) + n) / (2 * n)) k)

-- a step isn't before a quotient that is rounded up
past_test : (n m k i : ℕ) → 0 < m → nat_le ((2 * (k * n) + (n + 2 * m - 1)) / (2 * m)) i ≡ nat_le (2 * (n * (k + 1))) (2 * (i * m) + n)
past_test n m k i some =
    let both = div-lt_iff_lt-mul {k = 2 * m} {x = 2 * (k * n) + (n + 2 * m - 1)} {y = i + 1} (omega arith) in
    let product : (i + 1) * (2 * m) ≡ 2 * (i * m) + 2 * m = doubled (i + 1) m ∙ ap (λ t. 2 * t) (one_more i m) ∙ spread (i * m) m in
    let further : n * (k + 1) ≡ k * n + n = mul_comm n (k + 1) ∙ one_more k n in
    same_test _ _ _ _ (λ less. let low : 2 * (k * n) + (n + 2 * m - 1) < (i + 1) * (2 * m) = both.0 less in omega (arith, low, product, further, some))
    (λ high. both.1 (omega (arith, high, product, further, some)))

-- The step at which a line has moved by one more, by a quotient.
pub past_found : (n m k i : ℕ) → 0 < n → 0 < m → nat_le ((2 * (k * n) + (n + 2 * m - 1)) / (2 * m)) i ≡ nat_le (k + 1) (line_offset n m i)
past_found n m k i long some = past_test n m k i some ∙ sym (offset_test n m i (k + 1) long)

-- A line never moves further on its short axis than in all.
some_small : (n m i : ℕ) → 0 < n → i ≤ n → line_offset n m i ≤ m
some_small n m i some inside =
    let both = div-lt_iff_lt-mul {k = 2 * n} {x = 2 * (i * m) + n} {y = m + 1} (omega arith) in
    let grows : i * m ≤ n * m = mul-le-mul_right m inside in
    let product : (m + 1) * (2 * n) ≡ 2 * (n * m) + 2 * n = doubled (m + 1) n ∙ ap (λ t. 2 * t) (one_more m n ∙ ap (λ t. t + n) (mul_comm m n)) ∙ spread (n * m) n in
    let less : (2 * (i * m) + n) / (2 * n) < m + 1 = both.1 (omega (arith, grows, product)) in
    rw (offset_is n m i some) (omega (arith, less))

none_small : (n m i : ℕ) → n ≤ 0 → line_offset n m i ≤ m
unfolding line_offset
none_small n m i none =
    let zero_steps : (n == 0) ≡ true = grind (arith, nat_tests) in
    rw zero_steps (omega arith)

pub offset_small : (n m i : ℕ) → i ≤ n → line_offset n m i ≤ m
offset_small n m i inside =
    ⊎_elim (λ (some : 0 < n). some_small n m i some inside) (λ (none : n ≤ 0). none_small n m i none) (cases_lt 0 n)

-- no step is further than that
pub never_reached : (n m k i : ℕ) → m < k → i ≤ n → nat_le (n + 1) i ≡ nat_le k (line_offset n m i)
never_reached n m k i far inside = let small = offset_small n m i inside in grind (arith, nat_tests)
