-- What digits count, digit by digit and up to the cap.
use Rattle.std.proofs.Common.{◌≡◌, ℕ, zero, suc, ◌+◌, ◌-◌, ◌*◌, ◌<◌, ◌≤◌, min, Bool, true, false, List, [], ◌∷◌, length, take, drop, get_or, IsTrue, ◌||◌, cond, ℤ, pos, neg_ℤ, ◌-ℤ◌, to_z, of_z, w64, codes, bytes_eq, refl, ap, ◌∙◌, arith}
use Rattle.std.specs.List.{list_all}
use Rattle.std.specs.Char.{digit_value}
use Rattle.std.specs.Str.Parse.{digits_value}
use Rattle.lw_grammar.specs.Tokens.{NameToken, NumberToken, TextToken, OddToken, is_a_digit, is_a_text, is_a_name, is_above_zero, is_below_zero, cap, capped, token_of, without_last}
use Rattle.std.proofs.lemmas.Int.{ints}
use Rattle.std.proofs.lemmas.Int.Digits.{digits_value_more}
use Rattle.std.proofs.lemmas.Bool.{and_parts}
use Rattle.std.proofs.lemmas.List.{take_rest}
use Rattle.std.proofs.lemmas.Bool.Decides.{nat_tests}

-- each byte of digits is one
pub digit_range : (ds : List ℕ) (i : ℕ) → IsTrue (list_all is_a_digit ds) → i < length ds → (48 ≤ get_or ds i 0) × (get_or ds i 0 ≤ 57)
digit_range [] i h lt = absurd (omega arith)
digit_range (d ∷ ds) zero h lt =
    let k : is_a_digit d ≡ true = (and_parts (is_a_digit d) (list_all is_a_digit ds) h).0 in
    grind (arith, nat_tests)
digit_range (d ∷ ds) (suc i) h lt =
    let k : IsTrue (list_all is_a_digit ds) = (and_parts (is_a_digit d) (list_all is_a_digit ds) h).1 in
    digit_range ds i k (omega arith)

-- what a digit counts
value_of_digit : (d : ℕ) → 48 ≤ d → d ≤ 57 → digit_value d ≡ d - 48
value_of_digit d low high = grind (arith, nat_tests)

-- a cap put on early or late is the same
capped_late : (v d n w : ℕ) → n ≡ min v 4294967296 → w ≡ v * 10 + d → min (n * 10 + d) 4294967296 ≡ min w 4294967296
capped_late v d n w e f = omega arith

-- one digit more
pub capped_more : (ds : List ℕ) (i n : ℕ) → IsTrue (list_all is_a_digit ds) → i < length ds → n ≡ min (digits_value 10 (take i ds)) cap → min (n * 10 + (get_or ds i 0 - 48)) cap ≡ min (digits_value 10 (take (i + 1) ds)) cap
capped_more ds i n h lt e =
    let r = digit_range ds i h lt in
    let d : digit_value (get_or ds i 0) ≡ get_or ds i 0 - 48 = value_of_digit (get_or ds i 0) r.0 r.1 in
    let v : digits_value 10 (take (i + 1) ds) ≡ digits_value 10 (take i ds) * 10 + digit_value (get_or ds i 0) = digits_value_more 10 ds i lt in
    capped_late (digits_value 10 (take i ds)) (get_or ds i 0 - 48) n (digits_value 10 (take (i + 1) ds)) e (omega (arith, v, d))

-- what a number after a minus is
minus : (m : ℕ) (r : ℤ) → m ≤ 4294967296 → r ≡ pos m → to_z w64 (of_z w64 (pos 0 -ℤ to_z w64 (of_z w64 r))) ≡ neg_ℤ (pos m)
minus m r le e = omega (arith, ints)

-- no number is above the cap
up_to_cap : (m : ℕ) → min m 4294967296 ≤ 4294967296
up_to_cap m = omega arith

-- what a word is that is a number after a minus, by its tests
number_value : (w : List ℕ) (x n p q m : Bool) (z : ℤ) → x ≡ false → n ≡ false → m ≡ true → z ≡ neg_ℤ (pos (capped (drop 1 w))) → NumberToken w z ≡ cond x (TextToken (without_last (drop 1 w))) (cond n (NameToken w) (cond (p || (q || m)) (NumberToken w (cond m (neg_ℤ (pos (capped (drop 1 w)))) (pos (capped w)))) (OddToken w)))
number_value w x n true q m z d e f g = rw (d, e, f, g) refl
number_value w x n false true m z d e f g = rw (d, e, f, g) refl
number_value w x n false false m z d e f g = rw (d, e, f, g) refl

-- what a word is that is a number after a minus
pub negative_value : (w : List ℕ) (r : ℤ) → is_a_text w ≡ false → is_a_name w ≡ false → is_below_zero w ≡ true → r ≡ pos (capped (take (length w - 1) (drop 1 w))) → NumberToken w (to_z w64 (of_z w64 (pos 0 -ℤ to_z w64 (of_z w64 r)))) ≡ token_of w
negative_value w r t n m e =
    let f : r ≡ pos (capped (drop 1 w)) = e ∙ ap (λ d. pos (capped d)) (take_rest w 1) in
    number_value w (is_a_text w) (is_a_name w) (bytes_eq w (codes "0")) (is_above_zero w) (is_below_zero w) _ t n m (minus (capped (drop 1 w)) r (up_to_cap (digits_value 10 (drop 1 w))) f)

-- the bytes without the last one, by their number
pub front_of : (bs : List ℕ) → take (length bs - 1) bs ≡ without_last bs
front_of [] = refl
front_of (b ∷ []) = refl
front_of (b ∷ c ∷ bs) =
    let e : suc (suc (length bs)) - 1 ≡ suc (suc (length bs) - 1) = omega arith in
    rw e (ap (λ r. b ∷ r) (front_of (c ∷ bs)))
