-- The bits of words that are made of two neighbouring bytes of a source each.
use Rattle.std.proofs.Common.{◌≡◌, ℕ, ◌+◌, ◌-◌, ◌*◌, ◌/◌, ◌%◌, ◌^◌, ◌<◌, ◌≤◌, ◌&&◌, not, nat_lt, min, max, if◌then◌else◌, Bool, true, false, List, [], ◌∷◌, get_or, zero, suc, bit_and, bit_or, ap, sym, refl, ◌∙◌, ⊎_elim, arith}
use Rattle.std.specs.Int.{bit_at, bit_not, w64}
use Rattle.std.proofs.lemmas.Bool.{cases_lt, lt-ltb, le-ltb}
use Rattle.std.proofs.lemmas.Bool.Decides.{nat_tests}
use Rattle.std.proofs.lemmas.Nat.Bits.{bit_at-lt, bit_at_ones, bit_at_and, bit_at_or, bit_at_not}
use Rattle.lw_planes.specs.Row.{bit_of, row_bit}
use Rattle.lw_kernels.specs.Kernel.{is_between}
use Rattle.lw_kernels.specs.Words.{spot}
use Rattle.lw_kernels.specs.Wide.{IsMasks}
use Rattle.lw_kernels.specs.declared.wide.Masks.{Masks}
use Rattle.lw_kernels.proofs.ByteLaws.{bit_at_shl, bit_at_shr}
use Rattle.lw_kernels.proofs.RowWriting.{Done, if_true, if_false, between_before, between_after, done_inside, done_before, done_after}

-- ones that are shifted to the left: the bits of a byte that a shift leaves in it
pub near_bit : (shift i : ℕ) → i < 8 → bit_at ((255 * 2 ^ shift) % 2 ^ 8) (7 - i) ≡ bit_of (nat_lt (i + shift) 8)
near_bit shift i low =
    let in_byte : 7 - i < 8 = omega arith in
    let shifted = bit_at_shl 8 255 shift (7 - i) in_byte in
    ⊎_elim
    (λ (near : i + shift < 8).
    let above : shift ≤ 7 - i = omega (arith, low) in
    if_false (nat_lt (7 - i) shift) _ 0 (bit_at 255 (7 - i - shift)) shifted (le-ltb (7 - i) shift above) ∙
    (bit_at_ones 8 (7 - i - shift) (omega arith) ∙ sym (ap bit_of (lt-ltb (i + shift) 8 near))))
    (λ (far : 8 ≤ i + shift).
    let below : 7 - i < shift = omega (arith, low) in
    if_true (nat_lt (7 - i) shift) _ 0 (bit_at 255 (7 - i - shift)) shifted (lt-ltb (7 - i) shift below) ∙ sym (ap bit_of (le-ltb (i + shift) 8 far)))
    (cases_lt (i + shift) 8)

bit_and_of : (t n : Bool) → min (bit_of t) (bit_of n) ≡ bit_of (t && n)
bit_and_of true true = refl
bit_and_of true false = refl
bit_and_of false true = refl
bit_and_of false false = refl

bit_not_of : (t : Bool) → 1 - bit_of t ≡ bit_of (not t)
bit_not_of true = refl
bit_not_of false = refl

-- the bits of eight bytes that are all the same
pub repeated_bit : (b j : ℕ) → j < 64 → row_bit (b ∷ b ∷ b ∷ b ∷ b ∷ b ∷ b ∷ b ∷ []) j ≡ bit_at b (7 - j % 8)
unfolding row_bit
repeated_bit b j low = ap (λ n. bit_at n (7 - j % 8)) (each (j / 8) (omega (arith, low)))
  where
    each : (k : ℕ) → k < 8 → get_or (b ∷ b ∷ b ∷ b ∷ b ∷ b ∷ b ∷ b ∷ []) k 0 ≡ b
    each zero low = refl
    each (suc zero) low = refl
    each (suc (suc zero)) low = refl
    each (suc (suc (suc zero))) low = refl
    each (suc (suc (suc (suc zero)))) low = refl
    each (suc (suc (suc (suc (suc zero))))) low = refl
    each (suc (suc (suc (suc (suc (suc zero)))))) low = refl
    each (suc (suc (suc (suc (suc (suc (suc zero))))))) low = refl
    each (suc (suc (suc (suc (suc (suc (suc (suc k)))))))) low = absurd (omega arith)

-- the masks of the bits for which a test holds
pub masks_are : (named near shift : ℕ) (test : ℕ → Bool) (m : Masks) → named < 2 ^ 64 → near < 2 ^ 64
    → ((j : ℕ) → j < 64 → bit_at named (spot j) ≡ bit_of (test j))
    → ((j : ℕ) → j < 64 → bit_at near (spot j) ≡ bit_of (nat_lt (j % 8 + shift) 8))
    → m.here ≡ bit_and named near → m.next ≡ bit_and named (bit_not w64 near) → m.old ≡ bit_not w64 named
    → IsMasks shift test m
masks_are named near shift test m small few names nears is_here is_next is_old = record {
  here = λ j low.
      ap (λ n. bit_at n (spot j)) is_here ∙ (bit_at_and named near (spot j) ∙
      (ap (λ n. min n (bit_at near (spot j))) (names j low) ∙ (ap (λ n. min (bit_of (test j)) n) (nears j low) ∙ bit_and_of (test j) (nat_lt (j % 8 + shift) 8))));
  next = λ j low.
      ap (λ n. bit_at n (spot j)) is_next ∙ (bit_at_and named (bit_not w64 near) (spot j) ∙
      (ap (λ n. min n (bit_at (bit_not w64 near) (spot j))) (names j low) ∙ (ap (λ n. min (bit_of (test j)) n) (complement near (λ j. nat_lt (j % 8 + shift) 8) j few low nears) ∙ bit_and_of (test j) (not (nat_lt (j % 8 + shift) 8)))));
  old = λ j low. ap (λ n. bit_at n (spot j)) is_old ∙ complement named test j small low names;
}
  where
    complement : (n : ℕ) (t : ℕ → Bool) (j : ℕ) → n < 2 ^ 64 → j < 64 → ((j : ℕ) → j < 64 → bit_at n (spot j) ≡ bit_of (t j)) → bit_at (bit_not w64 n) (spot j) ≡ bit_of (not (t j))
    complement n t j small low is =
        let in_word : spot j < 64 = omega (arith, low) in
        bit_at_not w64 n (spot j) small in_word ∙ (ap (λ b. 1 - b) (is j low) ∙ bit_not_of (t j))

-- one bit of what three masks take
picked : (t n : Bool) (v h x o a b c : ℕ) → h < 2 → x < 2 → o < 2 → v ≡ max (max (min h a) (min x b)) (min o c) → a ≡ bit_of (t && n) → b ≡ bit_of (t && not n) → c ≡ bit_of (not t) → v ≡ (if t then (if n then h else x) else o)
picked true true v h x o a b c hs xs os is p q r = omega (arith, is, p, q, r)
picked true false v h x o a b c hs xs os is p q r = omega (arith, is, p, q, r)
picked false n v h x o a b c hs xs os is p q r = omega (arith, is, p, q, r)

-- a choice with other names for all of it
pub chosen_both : (t u : Bool) (a b c d : ℕ) → t ≡ u → a ≡ b → c ≡ d → (if t then a else c) ≡ (if u then b else d)
chosen_both t u a b c d test first second = ap (λ n. if n then a else c) test ∙ (ap (λ n. if u then n else c) first ∙ ap (λ n. if u then b else n) second)

-- a word that is made under masks has the source's bits where the test holds, and its own elsewhere
pub word_made : (left right old shift : ℕ) (m : Masks) (test : ℕ → Bool) (new was : ℕ) (j : ℕ) → j < 64 → IsMasks shift test m
    → (j % 8 + shift < 8 → bit_at left (spot j) ≡ new) → (8 ≤ j % 8 + shift → bit_at right (spot j) ≡ new) → bit_at old (spot j) ≡ was
    → bit_at (bit_or (bit_or (bit_and left m.here) (bit_and right m.next)) (bit_and old m.old)) (spot j) ≡ (if test j then new else was)
word_made left right old shift m test new was j low masks lefts rights olds =
    let p : ℕ = spot j in
    let near : Bool = nat_lt (j % 8 + shift) 8 in
    let taken : bit_at (bit_or (bit_or (bit_and left m.here) (bit_and right m.next)) (bit_and old m.old)) p ≡ (if test j then (if near then bit_at left p else bit_at right p) else bit_at old p) =
    picked (test j) near _ (bit_at left p) (bit_at right p) (bit_at old p) (bit_at m.here p) (bit_at m.next p) (bit_at m.old p)
    (bit_at-lt left p) (bit_at-lt right p) (bit_at-lt old p)
    (bit_at_or (bit_or (bit_and left m.here) (bit_and right m.next)) (bit_and old m.old) p ∙
    (ap (λ n. max n (bit_at (bit_and old m.old) p)) (bit_at_or (bit_and left m.here) (bit_and right m.next) p) ∙
    (ap (λ n. max (max n (bit_at (bit_and right m.next) p)) (bit_at (bit_and old m.old) p)) (bit_at_and left m.here p) ∙
    (ap (λ n. max (max (min (bit_at left p) (bit_at m.here p)) n) (bit_at (bit_and old m.old) p)) (bit_at_and right m.next p) ∙
    ap (λ n. max (max (min (bit_at left p) (bit_at m.here p)) (min (bit_at right p) (bit_at m.next p))) n) (bit_at_and old m.old p)))))
    (masks.here j low) (masks.next j low) (masks.old j low)
    in
    let fresh : (if near then bit_at left p else bit_at right p) ≡ new =
    ⊎_elim
    (λ (is : j % 8 + shift < 8). if_true near _ (bit_at left p) (bit_at right p) refl (lt-ltb (j % 8 + shift) 8 is) ∙ lefts is)
    (λ (is : 8 ≤ j % 8 + shift). if_false near _ (bit_at left p) (bit_at right p) refl (le-ltb (j % 8 + shift) 8 is) ∙ rights is)
    (cases_lt (j % 8 + shift) 8)
    in
    taken ∙ chosen_both (test j) (test j) _ new _ was refl fresh olds

-- the bits of a word of a source that a shift leaves in their bytes
pub bit_left : (here shift : ℕ) (source : List ℕ) (start j : ℕ) → j < 64 → ((j : ℕ) → j < 8 * 8 → bit_at here (spot j) ≡ row_bit source (8 * start + j)) → j % 8 + shift < 8 → bit_at ((here * 2 ^ shift) % 2 ^ 64) (spot j) ≡ row_bit source (8 * start + shift + j)
bit_left here shift source start j low heres near =
    let p : ℕ = spot j in
    let in_word : p < 64 = omega (arith, low) in
    let above : shift ≤ p = omega (arith, near) in
    let inside : j + shift < 8 * 8 = omega (arith, low, near) in
    let there : p - shift ≡ spot (j + shift) = omega (arith, near) in
    let same : 8 * start + (j + shift) ≡ 8 * start + shift + j = omega arith in
    if_false (nat_lt p shift) _ 0 (bit_at here (p - shift)) (bit_at_shl 64 here shift p in_word) (le-ltb p shift above) ∙
    (ap (bit_at here) there ∙ (heres (j + shift) inside ∙ ap (row_bit source) same))

-- and those that it brings from the next bytes
pub bit_right : (next shift : ℕ) (source : List ℕ) (start j : ℕ) → j < 64 → shift < 8 → ((j : ℕ) → j < 8 * 8 → bit_at next (spot j) ≡ row_bit source (8 * (start + 1) + j)) → 8 ≤ j % 8 + shift → bit_at (next / 2 ^ (8 - shift)) (spot j) ≡ row_bit source (8 * start + shift + j)
bit_right next shift source start j low few nexts far =
    let p : ℕ = spot j in
    let inside : j + shift - 8 < 8 * 8 = omega (arith, low, few) in
    let there : 8 - shift + p ≡ spot (j + shift - 8) = omega (arith, far, few) in
    let same : 8 * (start + 1) + (j + shift - 8) ≡ 8 * start + shift + j = omega (arith, far) in
    bit_at_shr next (8 - shift) p ∙ (ap (bit_at next) there ∙ (nexts (j + shift - 8) inside ∙ ap (row_bit source) same))

-- some bits of a part of a row are new ones
pub done_within : (row : List ℕ) (new old : ℕ → ℕ) (first last from end : ℕ) → first ≤ from → end ≤ last → Done row (λ x. if is_between from end x then new x else old x) old first last → Done row new old from end
done_within row new old first last from end begins ends done = λ x.
    ⊎_elim
    (λ (early : x < first). done_before row _ old first last x done early ∙ sym (if_false (is_between from end x) _ (new x) (old x) refl (between_before from end x (omega arith))))
    (λ (late : first ≤ x).
    ⊎_elim
    (λ (low : x < last). done_inside row _ old first last x done late low)
    (λ (past : last ≤ x). done_after row _ old first last x done past ∙ sym (if_false (is_between from end x) _ (new x) (old x) refl (between_after from end x (omega arith))))
    (cases_lt x last))
    (cases_lt x first)

-- the bits of a column, from the first of a row's words and of the row
pub between_moved : (lead count at j x : ℕ) → 8 * at + j ≡ x → is_between lead (lead + count) j ≡ is_between (8 * at + lead) (8 * at + lead + count) x
between_moved lead count at j x place = grind (arith, nat_tests)

-- the bits of a column that the first word has
pub first_word : (lead count j : ℕ) → j < 64 → 64 ≤ lead + count → is_between lead (lead + (64 - lead)) j ≡ is_between lead (lead + count) j
first_word lead count j low reaches = grind (arith, nat_tests)

-- and those that the second one has
pub second_word : (lead count j : ℕ) → lead < 64 → 64 ≤ lead + count → is_between 0 (0 + (lead + count - 64)) j ≡ is_between lead (lead + count) (64 + j)
second_word lead count j low reaches = grind (arith, nat_tests)
