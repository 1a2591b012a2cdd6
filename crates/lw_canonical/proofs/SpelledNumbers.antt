-- Numbers, hexadecimal digits and sets of classes have one spelling each.
use Rattle.std.proofs.Common.{◌≡◌, ℕ, zero, suc, ◌+◌, ◌*◌, ◌/◌, ◌%◌, ◌^◌, ◌<◌, ◌≤◌, ◌==◌, min, Bool, true, false, not, ◌&&◌, ◌||◌, cond, nat_le, nat_lt, List, [], ◌∷◌, ◌++◌, ℤ, pos, neg_ℤ, unsigned_abs, codes, bytes_eq, Option, Some, None, option_map, option_and_then, IfSome, refl, sym, ap, ◌∙◌, arith}
use Rattle.std.specs.List.{list_all, range_with_len}
use Rattle.std.specs.Fmt.{decimal, signed_decimal}
use Rattle.std.specs.Str.Parse.{digits_value}
use Rattle.lw_region.specs.Rectangle.{within}
use Rattle.lw_grammar.specs.Tokens.{is_a_digit, is_above_zero, is_below_zero, is_a_number, cap, capped, value_of_number, is_hex, hex_value, hex_bytes}
use Rattle.lw_grammar.specs.Statements.{message_class_of, classes_from}
use Rattle.lw_calls.specs.Written.{hex_digit, hex_byte}
use Rattle.lw_canonical.specs.Spelling.{hex_word, set_word}
use Rattle.std.proofs.lemmas.Int.{ints}
use Rattle.std.proofs.lemmas.Fmt.{decimal-digits_value, decimal_digit}
use Rattle.std.proofs.lemmas.Str.Parse.{IsDigitsTest, numerals_by_value}
use Rattle.std.proofs.lemmas.Bool.{false≢true, eqb-true, leb-true, ltb-true, le-leb, and_parts, and_from}
use Rattle.std.proofs.lemmas.Bool.Decides.{nat_tests}
use Rattle.lw_calls.proofs.OrdersComplete.{all_below}
use Rattle.lw_grammar.proofs.ScriptStatements.{map_has, hex_small}
use Rattle.lw_grammar.proofs.ScriptNames.{equal_names}
use Rattle.std.proofs.Math.Bool.{or-false}

-- each of these is a decimal digit
abbrev pub AreDigits : List ℕ → Type 0
AreDigits ds = list_all is_a_digit ds ≡ true

-- so says the test of digits
pub tells_digits_so : IsDigitsTest AreDigits
tells_digits_so = record {
  empty = refl;
  parts = λ c cs e. let k = and_parts (is_a_digit c) (list_all is_a_digit cs) e in let m = and_parts (nat_le 48 c) (nat_le c 57) k.0 in ((leb-true 48 c m.0, leb-true c 57 m.1), k.1);
  more = λ c cs r e. and_from (is_a_digit c) (list_all is_a_digit cs) (and_from (nat_le 48 c) (nat_le c 57) (le-leb 48 c r.0) (le-leb c 57 r.1)) e;
}

-- digits after one from 1 to 9 are what is written of their value
above_zero_spelled : (ds : List ℕ) → is_above_zero ds ≡ true → digits_value 10 ds < cap → decimal (digits_value 10 ds) ≡ ds
above_zero_spelled [] e small = absurd (false≢true e)
above_zero_spelled (b ∷ bs) e small =
    let k = and_parts (nat_le 49 b && nat_le b 57) (list_all is_a_digit bs) e in
    let m = and_parts (nat_le 49 b) (nat_le b 57) k.0 in
    let low : 49 ≤ b = leb-true 49 b m.0 in
    let high : b ≤ 57 = leb-true b 57 m.1 in
    let digits : AreDigits (b ∷ bs) = and_from (is_a_digit b) (list_all is_a_digit bs) (and_from (nat_le 48 b) (nat_le b 57) (le-leb 48 b (omega arith)) m.1) k.1 in
    decimal-digits_value (numerals_by_value AreDigits tells_digits_so) (b ∷ bs) digits (omega arith) (λ z. absurd (omega (arith, z, low))) (omega (arith, small))

-- a number below the cap isn't capped
below_cap : (n : ℕ) → min n cap < cap → min n cap ≡ n
below_cap n h = omega arith

-- a minus before digits that are written of their value
minus_spelled : (n : ℕ) (ds : List ℕ) → is_above_zero ds ≡ true → decimal n ≡ ds → signed_decimal (neg_ℤ (pos n)) ≡ 45 ∷ ds
minus_spelled zero ds e d = absurd (false≢true (ap is_above_zero (sym (decimal_digit 0 (omega arith)) ∙ d) ∙ e))
minus_spelled (suc n) ds e d = ap (λ l. 45 ∷ l) d

-- how far the negative of a number is from 0
abs_minus : (n : ℕ) → unsigned_abs (neg_ℤ (pos n)) ≡ n
abs_minus zero = refl
abs_minus (suc n) = refl

-- The number that a word counts is written so, where it lies below the cap.
pub number_spelled : (w : List ℕ) → is_a_number w ≡ true → unsigned_abs (value_of_number w) < cap → signed_decimal (value_of_number w) ≡ w
number_spelled [] e small = absurd (false≢true e)
number_spelled (b ∷ ds) e small = at_minus (is_below_zero (b ∷ ds)) refl small
  where
    above : is_above_zero (b ∷ ds) ≡ true → capped (b ∷ ds) < cap → decimal (capped (b ∷ ds)) ≡ b ∷ ds
    above h low =
        let same = below_cap (digits_value 10 (b ∷ ds)) low in
        ap decimal same ∙ above_zero_spelled (b ∷ ds) h (omega (arith, same, low))

    zero_or : (t : Bool) → bytes_eq (b ∷ ds) (codes "0") ≡ t → (t || (is_above_zero (b ∷ ds) || false)) ≡ true → capped (b ∷ ds) < cap → decimal (capped (b ∷ ds)) ≡ b ∷ ds
    zero_or true z h low =
        let is : b ∷ ds ≡ codes "0" = equal_names (b ∷ ds) (codes "0") z in
        ap (λ w. decimal (capped w)) is ∙ (decimal_digit 0 (omega arith) ∙ sym is)
    zero_or false z h low = above (sym (or-false (is_above_zero (b ∷ ds))) ∙ h) low

    at_minus : (t : Bool) → is_below_zero (b ∷ ds) ≡ t → unsigned_abs (cond t (neg_ℤ (pos (capped ds))) (pos (capped (b ∷ ds)))) < cap → signed_decimal (cond t (neg_ℤ (pos (capped ds))) (pos (capped (b ∷ ds)))) ≡ b ∷ ds
    at_minus true m low =
        let k = and_parts (b == 45) (is_above_zero ds) m in
        let is : 45 ≡ b = sym (eqb-true b 45 k.0) in
        let under : capped ds < cap = omega (arith, low, abs_minus (capped ds)) in
        let same = below_cap (digits_value 10 ds) under in
        minus_spelled (capped ds) ds k.1 (ap decimal same ∙ above_zero_spelled ds k.1 (omega (arith, same, under))) ∙ ap (λ c. c ∷ ds) is
    at_minus false m low = zero_or (bytes_eq (b ∷ ds) (codes "0")) refl (ap (λ t. bytes_eq (b ∷ ds) (codes "0") || (is_above_zero (b ∷ ds) || t)) (sym m) ∙ e) low

-- a number in a range that lies below the cap lies below the cap
pub small_in : (low z high : ℤ) → within low z high ≡ true → unsigned_abs low < cap → unsigned_abs high < cap → unsigned_abs z < cap
unfolding within
small_in low z high h a b = grind (arith, ints, nat_tests)

-- a hexadecimal digit is written of what it counts
hex_digit_spelled : (b : ℕ) → is_hex b ≡ true → hex_digit (hex_value b) ≡ b
hex_digit_spelled b h = grind (arith, nat_tests)

-- two digits of a byte
quotient : (x y : ℕ) → y ≤ 15 → ((x * 16) + y) / 16 ≡ x
quotient x y h = omega arith

remainder : (x y : ℕ) → y ≤ 15 → ((x * 16) + y) % 16 ≡ y
remainder x y h = omega arith

byte_spelled : (a b : ℕ) → (is_hex a && is_hex b) ≡ true → hex_byte ((hex_value a * 16) + hex_value b) ≡ a ∷ b ∷ []
byte_spelled a b h =
    let k = and_parts (is_hex a) (is_hex b) h in
    let low = hex_small b k.1 in
    rw (quotient (hex_value a) (hex_value b) low, remainder (hex_value a) (hex_value b) low, hex_digit_spelled a k.0, hex_digit_spelled b k.1) refl

-- The bytes that digits spell are written so.
pub hex_written : (word : List ℕ) → IfSome (hex_bytes word) (λ bytes. hex_word bytes ≡ word)
hex_written [] = refl
hex_written (a ∷ []) = tt
hex_written (a ∷ b ∷ rest) = step (is_hex a && is_hex b) refl (hex_written rest)
  where
    step : (t : Bool) → (is_hex a && is_hex b) ≡ t → IfSome (hex_bytes rest) (λ bytes. hex_word bytes ≡ rest) → IfSome (cond t (option_map (λ bytes. ((hex_value a * 16) + hex_value b) ∷ bytes) (hex_bytes rest)) None) (λ bytes. hex_word bytes ≡ a ∷ b ∷ rest)
    step true e h = map_has (λ bytes. hex_word bytes ≡ rest) (λ bytes. hex_word bytes ≡ a ∷ b ∷ rest) _ (hex_bytes rest) h (λ bytes k. ap (λ l. l ++ hex_word bytes) (byte_spelled a b e) ∙ ap (λ l. a ∷ b ∷ l) k)
    step false e h = tt

-- the letter of a class
abbrev letter : ℕ → ℕ
letter zero = 114
letter (suc zero) = 110
letter (suc (suc zero)) = 99
letter (suc (suc (suc zero))) = 97
letter (suc (suc (suc (suc n)))) = 105

-- What is added to a set of higher classes comes before their letters, and the set stays one of classes from any lower one on.
abbrev goes_before : ℕ → ℕ → Bool
goes_before k c =
    not (c % 2 ^ (k + 1) == 0) || (bytes_eq (set_word (2 ^ k + c)) (letter k ∷ set_word c) && (nat_lt (2 ^ k + c) 32 && list_all (λ least. (2 ^ k + c) % 2 ^ least == 0) (range_with_len 0 (k + 1))))

-- so it is with each class and each set
all_go_before : list_all (λ k. list_all (goes_before k) (range_with_len 0 32)) (range_with_len 0 5) ≡ true
all_go_before = refl

-- the empty set is one of classes from any on
all_empty : list_all (λ least. 0 % 2 ^ least == 0) (range_with_len 0 6) ≡ true
all_empty = refl

-- of two tests of which the first fails, the second holds
second : (b c : Bool) → (not b || c) ≡ true → b ≡ true → c ≡ true
second true c e h = e
second false c e h = absurd (false≢true h)

-- a set of classes from this one on, by the letters that spell it
abbrev pub IsSetOf : ℕ → List ℕ → ℕ → Type 0
IsSetOf least letters c = (c < 32) × ((c % 2 ^ least == 0) ≡ true) × (set_word c ≡ letters)

-- a set with one class more
with_class : (least k b c : ℕ) (bs : List ℕ) → least ≤ k → k < 5 → letter k ≡ b → IsSetOf (k + 1) bs c → IsSetOf least (b ∷ bs) (2 ^ k + c)
with_class least k b c bs low high is h =
    let row = all_below (λ j. list_all (goes_before j) (range_with_len 0 32)) 5 k all_go_before high in
    let one = all_below (goes_before k) 32 c row h.0 in
    let told = second (c % 2 ^ (k + 1) == 0) _ one h.1 in
    let parts = and_parts (bytes_eq (set_word (2 ^ k + c)) (letter k ∷ set_word c)) _ told in
    let rest = and_parts (nat_lt (2 ^ k + c) 32) _ parts.1 in (
      ltb-true (2 ^ k + c) 32 rest.0,
      all_below (λ j. (2 ^ k + c) % 2 ^ j == 0) (k + 1) least rest.1 (omega arith),
      equal_names (set_word (2 ^ k + c)) (letter k ∷ set_word c) parts.0 ∙ (ap (λ l. l ∷ set_word c) is ∙ ap (λ l. b ∷ l) h.2),
    )

-- what a test finds has what holds of it where the test does
pub found_if : {A : Type 0} (P : A → Type 0) (b : Bool) (x : A) (o : Option A) → (b ≡ true → P x) → IfSome o P → IfSome (cond b (Some x) o) P
found_if P true x o h k = h refl
found_if P false x o h k = k

-- a letter stands for its class
abbrev IsLetter : ℕ → ℕ → Type 0
IsLetter b k = (k < 5) × (letter k ≡ b)

class_spelled : (b : ℕ) → IfSome (message_class_of b) (IsLetter b)
class_spelled b =
    found_if (IsLetter b) (b == 114) 0 _ (λ e. (omega arith, sym (eqb-true b 114 e))) (found_if (IsLetter b) (b == 110) 1 _ (λ e. (omega arith, sym (eqb-true b 110 e))) (found_if (IsLetter b) (b == 99) 2 _ (λ e. (omega arith, sym (eqb-true b 99 e))) (found_if (IsLetter b) (b == 97) 3 _ (λ e. (omega arith, sym (eqb-true b 97 e))) (found_if (IsLetter b) (b == 105) 4 None (λ e. (omega arith, sym (eqb-true b 105 e))) tt))))

-- The set that letters stand for is written so.
pub set_spelled : (least : ℕ) (bs : List ℕ) → least ≤ 5 → IfSome (classes_from least bs) (IsSetOf least bs)
set_spelled least [] h = (omega arith, all_below (λ j. 0 % 2 ^ j == 0) 6 least all_empty (omega arith), refl)
set_spelled least (b ∷ bs) h = at_class (message_class_of b) (class_spelled b) (λ k small. set_spelled (k + 1) bs (omega (arith, small)))
  where
    at_class : (o : Option ℕ) → IfSome o (IsLetter b) → ((k : ℕ) → k < 5 → IfSome (classes_from (k + 1) bs) (IsSetOf (k + 1) bs)) → IfSome (option_and_then (λ k. cond (nat_le least k) (option_map (λ rest. 2 ^ k + rest) (classes_from (k + 1) bs)) None) o) (IsSetOf least (b ∷ bs))
    at_class None l go = tt
    at_class (Some k) l go = test (nat_le least k) refl
      where
        test : (t : Bool) → nat_le least k ≡ t → IfSome (cond t (option_map (λ rest. 2 ^ k + rest) (classes_from (k + 1) bs)) None) (IsSetOf least (b ∷ bs))
        test false e = tt
        test true e = map_has (IsSetOf (k + 1) bs) (IsSetOf least (b ∷ bs)) (λ rest. 2 ^ k + rest) (classes_from (k + 1) bs) (go k l.0) (λ c m. with_class least k b c bs (leb-true least k e) l.0 l.1 m)
