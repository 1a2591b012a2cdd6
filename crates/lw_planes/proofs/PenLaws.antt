-- Laws of pens and bytes by their bits.
use Rattle.std.proofs.Common.{◌≡◌, ℕ, zero, suc, ◌+◌, ◌-◌, ◌*◌, ◌^◌, ◌<◌, ◌≤◌, ◌∙◌, refl, ap, arith, ⊎_elim}
use Rattle.std.proofs.Math.Nat.{sub_self}
use Rattle.std.proofs.lemmas.Bool.{cases_lt}
use Rattle.std.specs.Int.{bit_at}
use Rattle.std.proofs.lemmas.Nat.Bits.{bit_at_cat_low, bit_at_cat_high, bit_at-lt, same_from_bits_below}
use Rattle.lw_planes.specs.Pen.{pen_of, byte_of}

-- pens with equal bits are equal
pub pen_of_same : (n : ℕ) (b c : ℕ → ℕ) → ((k : ℕ) → k < n → b k ≡ c k) → pen_of n b ≡ pen_of n c
unfolding pen_of
pen_of_same zero b c same = refl
pen_of_same (suc n) b c same =
    let front : pen_of n b ≡ pen_of n c = pen_of_same n b c (λ k h. same k (omega arith)) in
    let last : b n ≡ c n = same n (omega arith) in
    cc

-- one bit more
pen_more : (p b q : ℕ) → p < q → b < 2 → p + b * q < q + q
pen_more p zero q h l = omega arith
pen_more p (suc zero) q h l = omega arith
pen_more p (suc (suc b)) q h l = absurd (omega arith)

-- a pen of n planes is below 2 ^ n
pub pen_of_lt : (n : ℕ) (b : ℕ → ℕ) → ((k : ℕ) → k < n → b k < 2) → pen_of n b < 2 ^ n
unfolding pen_of
pen_of_lt zero b bits = omega arith
pen_of_lt (suc n) b bits =
    let front : pen_of n b < 2 ^ n = pen_of_lt n b (λ k h. bits k (omega arith)) in
    let more : pen_of n b + b n * 2 ^ n < 2 ^ n + 2 ^ n = pen_more (pen_of n b) (b n) (2 ^ n) front (bits n (omega arith)) in
    omega arith

-- a number below two is its lowest bit
bit_of_bit : (b : ℕ) → b < 2 → bit_at b 0 ≡ b
bit_of_bit zero h = refl
bit_of_bit (suc zero) h = refl
bit_of_bit (suc (suc b)) h = absurd (omega arith)

-- the pen with these bits has these bits
pub bit_pen_of : (n : ℕ) (b : ℕ → ℕ) (k : ℕ) → ((i : ℕ) → i < n → b i < 2) → k < n → bit_at (pen_of n b) k ≡ b k
unfolding pen_of
bit_pen_of zero b k bits h = absurd (omega arith)
bit_pen_of (suc n) b k bits h =
    let front : pen_of n b < 2 ^ n = pen_of_lt n b (λ i l. bits i (omega arith)) in
    let turned : pen_of n b + b n * 2 ^ n ≡ b n * 2 ^ n + pen_of n b = omega arith in
    ⊎_elim
    (λ (low : k < n). ap (λ p. bit_at p k) turned ∙ (bit_at_cat_low (b n) n (pen_of n b) k low ∙ bit_pen_of n b k (λ i l. bits i (omega arith)) low))
    (λ (last : n ≤ k).
    let here : k ≡ n = omega arith in
    let same : bit_at (b n) (k - n) ≡ b k = rw (here, sub_self) (bit_of_bit (b n) (bits n (omega arith))) in
    ap (λ p. bit_at p k) turned ∙ (bit_at_cat_high (b n) n (pen_of n b) k front last ∙ same))
    (cases_lt k n)

-- a pen is the pen with its bits
pub pen_same : (n p : ℕ) → p < 2 ^ n → pen_of n (λ k. bit_at p k) ≡ p
pen_same n p small =
    same_from_bits_below n (pen_of n (λ k. bit_at p k)) p (pen_of_lt n (λ k. bit_at p k) (λ k h. bit_at-lt p k)) small
    (λ i h. bit_pen_of n (λ k. bit_at p k) i (λ k l. bit_at-lt p k) h)

-- bytes with equal bits are equal
pub byte_of_same : (b c : ℕ → ℕ) → ((j : ℕ) → j < 8 → b j ≡ c j) → byte_of b ≡ byte_of c
unfolding byte_of
byte_of_same b c same = pen_of_same 8 (λ k. b (7 - k)) (λ k. c (7 - k)) (λ k h. same (7 - k) (omega arith))

-- the byte with these bits has them from its most significant on
pub bit_byte_of : (b : ℕ → ℕ) (j : ℕ) → ((i : ℕ) → i < 8 → b i < 2) → j < 8 → bit_at (byte_of b) (7 - j) ≡ b j
unfolding byte_of
bit_byte_of b j bits h =
    let back : 7 - (7 - j) ≡ j = omega arith in
    bit_pen_of 8 (λ k. b (7 - k)) (7 - j) (λ k l. bits (7 - k) (omega arith)) (omega arith) ∙ ap b back

-- a byte is the byte with its bits
pub byte_same : (p : ℕ) → p < 256 → byte_of (λ j. bit_at p (7 - j)) ≡ p
unfolding byte_of
byte_same p small =
    pen_of_same 8 (λ k. bit_at p (7 - (7 - k))) (λ k. bit_at p k) (λ k h. let back : 7 - (7 - k) ≡ k = omega arith in ap (λ i. bit_at p i) back) ∙
    pen_same 8 p small
