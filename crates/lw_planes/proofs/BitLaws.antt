-- Laws of single bits in bytes, in rows of bytes, and in pens that are gathered or scattered bit by bit.
use Rattle.std.proofs.Common.{◌≡◌, ◌≢◌, ℕ, ◌+◌, ◌-◌, ◌*◌, ◌/◌, ◌%◌, ◌^◌, ◌<◌, ◌≤◌, ◌==◌, if◌then◌else◌, List, length, get_or, set, bit_and, bit_or, ◌∙◌, sym, refl, ap, ⊎_elim, add-one, get_or-set_same, get_or-set_other, arith}
use Rattle.std.specs.Int.{bit_at, w8}
use Rattle.std.proofs.Math.Nat.{pow-le-pow_right}
use Rattle.std.proofs.lemmas.Bool.{cases_lt, cases_eq}
use Rattle.std.proofs.lemmas.Bool.Decides.{nat_tests}
use Rattle.std.proofs.lemmas.Nat.{shl_whole, mul-le}
use Rattle.std.proofs.lemmas.Nat.Bits.{bit_at_set_same, bit_at_set_other, bit_at_clear_same, bit_at_clear_other, bit_at-lt, shr_and_one}
use Rattle.lw_planes.specs.Pen.{pen_of}
use Rattle.lw_planes.specs.Row.{bit_of, row_bit}
use Rattle.lw_planes.proofs.PenLaws.{pen_of_lt}

-- a choice by a place, from both of its cases
pub chosen_at : (i s v a b : ℕ) → (i ≡ s → v ≡ a) → (i ≢ s → v ≡ b) → v ≡ (if i == s then a else b)
chosen_at i s v a b here other = grind (arith, nat_tests)

-- what is chosen at the place
pub at_place : (i s v a b : ℕ) → v ≡ (if i == s then a else b) → i ≡ s → v ≡ a
at_place i s v a b chosen e = grind (arith, nat_tests)

-- what is chosen at another place
pub at_other : (i s v a b : ℕ) → v ≡ (if i == s then a else b) → i ≢ s → v ≡ b
at_other i s v a b chosen ne = grind (arith, nat_tests)

-- a byte with one bit set
pub bit_at_set : (byte s i : ℕ) → s < 8 → bit_at (bit_or byte (1 * 2 ^ s % 256)) i ≡ (if i == s then 1 else bit_at byte i)
bit_at_set byte s i h =
    chosen_at i s (bit_at (bit_or byte (1 * 2 ^ s % 256)) i) 1 (bit_at byte i)
    (λ e. ap (λ k. bit_at (bit_or byte (1 * 2 ^ s % 256)) k) e ∙ bit_at_set_same w8 byte s h)
    (λ ne. bit_at_set_other w8 byte s h i ne)

-- a byte with one bit cleared
pub bit_at_clear : (byte s i : ℕ) → s < 8 → i < 8 → bit_at (bit_and byte (255 - 1 * 2 ^ s % 256)) i ≡ (if i == s then 0 else bit_at byte i)
bit_at_clear byte s i h l =
    chosen_at i s (bit_at (bit_and byte (255 - 1 * 2 ^ s % 256)) i) 0 (bit_at byte i)
    (λ e. ap (λ k. bit_at (bit_and byte (255 - 1 * 2 ^ s % 256)) k) e ∙ bit_at_clear_same w8 byte s h)
    (λ ne. bit_at_clear_other w8 byte s h i l ne)

-- a row once a byte is written in which one bit is another
pub row_bit_set : (bytes : List ℕ) (place v b i : ℕ) → place < 8 * length bytes → ((j : ℕ) → j < 8 → bit_at v j ≡ (if j == 7 - place % 8 then b else bit_at (get_or bytes (place / 8) 0) j)) → row_bit (set bytes (place / 8) v) i ≡ (if i == place then b else row_bit bytes i)
unfolding row_bit
row_bit_set bytes place v b i inside bits =
    ⊎_elim
    (λ (same : i / 8 ≡ place / 8).
    let low : place / 8 < length bytes = omega arith in
    let new : get_or (set bytes (place / 8) v) (i / 8) 0 ≡ v = rw same (get_or-set_same bytes (place / 8) v 0 low) in
    let old : get_or bytes (i / 8) 0 ≡ get_or bytes (place / 8) 0 = ap (λ n. get_or bytes n 0) same in
    let j : ℕ = 7 - i % 8 in
    let small : j < 8 = omega arith in
    let bit = bits j small in
    let shown : bit_at (get_or (set bytes (place / 8) v) (i / 8) 0) j ≡ bit_at v j = ap (λ n. bit_at n j) new in
    chosen_at i place (bit_at (get_or (set bytes (place / 8) v) (i / 8) 0) j) b (bit_at (get_or bytes (i / 8) 0) j)
    (λ e. let at_bit : j ≡ 7 - place % 8 = omega arith in shown ∙ at_place j (7 - place % 8) (bit_at v j) b _ bit at_bit)
    (λ ne. let off_bit : j ≢ 7 - place % 8 = omega arith in shown ∙ (at_other j (7 - place % 8) (bit_at v j) b _ bit off_bit ∙ ap (λ n. bit_at n j) (sym old))))
    (λ (apart : i / 8 ≢ place / 8).
    let ne : i ≢ place = omega arith in
    let kept : get_or (set bytes (place / 8) v) (i / 8) 0 ≡ get_or bytes (i / 8) 0 = get_or-set_other bytes (place / 8) (i / 8) v 0 apart in
    chosen_at i place (bit_at (get_or (set bytes (place / 8) v) (i / 8) 0) (7 - i % 8)) b (bit_at (get_or bytes (i / 8) 0) (7 - i % 8))
    (λ e. absurd (ne e))
    (λ _. ap (λ n. bit_at n (7 - i % 8)) kept))
    (cases_eq (i / 8) (place / 8))

-- a pen of one plane more
pub pen_of_more : (n : ℕ) (b : ℕ → ℕ) → pen_of (n + 1) b ≡ pen_of n b + b n * 2 ^ n
unfolding pen_of
pen_of_more n b = rw add-one

-- a pen of no plane
pub pen_of_none : (b : ℕ → ℕ) → pen_of 0 b ≡ 0
unfolding pen_of
pen_of_none b = refl

-- the shift of a bit into its plane loses nothing
bit_shifted : (n bit : ℕ) → n < 8 → bit < 2 → bit * 2 ^ n % 256 ≡ bit * 2 ^ n
bit_shifted n bit h l = shl_whole bit 1 n 8 l (omega arith)

-- one more plane's bit is gathered
pub gathered_more : (n pen bit : ℕ) (f : ℕ → ℕ) → n < 8 → ((k : ℕ) → f k < 2) → pen ≡ pen_of n f → bit ≡ f n → pen + bit * 2 ^ n % 256 ≡ pen_of (n + 1) f
gathered_more n pen bit f h bits front last =
    let small : bit < 2 = rw last (bits n) in
    rw (bit_shifted n bit h small, pen_of_more n f, front, last)

-- what is gathered fits a byte
pub gathered_fits : (n pen bit : ℕ) (f : ℕ → ℕ) → n < 8 → ((k : ℕ) → f k < 2) → pen ≡ pen_of n f → bit ≡ f n → pen + bit * 2 ^ n % 256 < 256
gathered_fits n pen bit f h bits front last =
    let whole = gathered_more n pen bit f h bits front last in
    let small : pen_of (n + 1) f < 2 ^ (n + 1) = pen_of_lt (n + 1) f (λ k _. bits k) in
    let most : 2 ^ (n + 1) ≤ 2 ^ 8 = pow-le-pow_right {n = 2} (omega arith) {i = n + 1} {j = 8} (omega arith) in
    omega arith

-- a bit as the truth value that it is 1, and back
pub bit_tested : (pen n : ℕ) → bit_of (bit_and (pen / 2 ^ n) 1 == 1) ≡ bit_at pen n
bit_tested pen n = rw (shr_and_one pen n) (let small : bit_at pen n < 2 = bit_at-lt pen n in grind (arith, nat_tests))

-- two places some steps apart differ
step_apart : (n k place step : ℕ) → 0 < step → k < n → place + k * step ≢ place + n * step
step_apart n k place step long low = let more : (k + 1) * step ≤ n * step = mul-le (k + 1) step n step (omega arith) (omega arith) in omega arith

-- one more bit of a pen is scattered: the bits that are written
pub scattered_more : (n place step pen bit : ℕ) (mid new : ℕ → ℕ) → 0 < step → bit ≡ bit_at pen n → ((k : ℕ) → k < n → mid (place + k * step) ≡ bit_at pen k) → ((i : ℕ) → new i ≡ (if i == place + n * step then bit else mid i)) → (k : ℕ) → k < n + 1 → new (place + k * step) ≡ bit_at pen k
scattered_more n place step pen bit mid new long is front next k low =
    ⊎_elim
    (λ (early : k < n). at_other (place + k * step) (place + n * step) (new (place + k * step)) bit (mid (place + k * step)) (next (place + k * step)) (step_apart n k place step long early) ∙ front k early)
    (λ (late : n ≤ k).
    let here : k ≡ n = omega arith in
    let place_here : place + k * step ≡ place + n * step = ap (λ i. place + i * step) here in
    at_place (place + k * step) (place + n * step) (new (place + k * step)) bit (mid (place + k * step)) (next (place + k * step)) place_here ∙ (is ∙ ap (λ i. bit_at pen i) (sym here)))
    (cases_lt k n)

-- one more bit of a pen is scattered: the bits that stay
pub scattered_others : (n place step bit : ℕ) (old mid new : ℕ → ℕ) → ((i : ℕ) → ((k : ℕ) → k < n → i ≢ place + k * step) → mid i ≡ old i) → ((i : ℕ) → new i ≡ (if i == place + n * step then bit else mid i)) → (i : ℕ) → ((k : ℕ) → k < n + 1 → i ≢ place + k * step) → new i ≡ old i
scattered_others n place step bit old mid new kept next i off =
    at_other i (place + n * step) (new i) bit (mid i) (next i) (off n (omega arith)) ∙ kept i (λ k low. off k (omega arith))
