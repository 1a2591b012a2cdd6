-- A number that is written is a plain word, and is that number.
use Rattle.std.proofs.Common.{◌≡◌, ℕ, zero, suc, ◌<◌, ◌≤◌, ◌==◌, Bool, true, false, ◌&&◌, ◌||◌, nat_le, cond, List, [], ◌∷◌, length, ℤ, pos, negsuc, neg_ℤ, codes, bytes_eq, slice_index_or, refl, ap, ◌∙◌, arith}
use Rattle.std.specs.List.{list_all}
use Rattle.std.specs.Fmt.{digits, decimal, signed_decimal}
use Rattle.lw_region.proofs.Within.{within_low, within_high}
use Rattle.lw_calls.specs.Limits.{is_coordinate}
use Rattle.lw_grammar.specs.Tokens.{NameToken, NumberToken, TextToken, OddToken, is_a_letter, is_a_digit, is_in_name, is_above_zero, is_below_zero, is_a_number, capped, without_last, token_of}
use Rattle.lw_canonical.proofs.SpelledNumbers.{AreDigits, tells_digits_so}
use Rattle.lw_canonical.proofs.PlainWords.{is_plain_byte, is_plain}
use Rattle.std.proofs.lemmas.Fmt.{digits_decimal, digits_value-decimal, first_decimal, decimal_nonempty, length-decimal-le}
use Rattle.std.proofs.lemmas.Str.Parse.{numerals_by_value}
use Rattle.std.proofs.lemmas.Int.{ints}
use Rattle.std.proofs.lemmas.Bool.{leb-true, le-leb, ne_eqb, and_parts, and_from}
use Rattle.std.proofs.lemmas.Bool.Decides.{nat_tests}

either : (x y : Bool) → y ≡ true → (x || y) ≡ true
either true y e = refl
either false y e = e

no_letter : (b : ℕ) → b ≤ 57 → is_a_letter b ≡ false
no_letter b h = grind (arith, nat_tests)

-- digits of which the first isn't 0 are a number, and so are they behind a minus
above_zero : (w : List ℕ) → AreDigits w → 48 < slice_index_or w 0 0 → is_above_zero w ≡ true
above_zero [] d f = absurd (omega (arith, f))
above_zero (b ∷ bs) d f =
    let k = and_parts (is_a_digit b) (list_all is_a_digit bs) d in
    let m = and_parts (nat_le 48 b) (nat_le b 57) k.0 in
    and_from (nat_le 49 b && nat_le b 57) (list_all is_a_digit bs) (and_from (nat_le 49 b) (nat_le b 57) (le-leb 49 b (omega (arith, f))) m.1) k.1

digits_token : (w : List ℕ) → AreDigits w → 48 < slice_index_or w 0 0 → token_of w ≡ NumberToken w (pos (capped w))
digits_token [] d f = absurd (omega (arith, f))
digits_token (b ∷ bs) d f =
    let k = and_parts (is_a_digit b) (list_all is_a_digit bs) d in
    let m = and_parts (nat_le 48 b) (nat_le b 57) k.0 in
    let high = leb-true b 57 m.1 in
    let text : (b == 34) ≡ false = ne_eqb b 34 (λ e. omega (arith, e, f)) in
    let letter = no_letter b high in
    let above = above_zero (b ∷ bs) d f in
    let number : is_a_number (b ∷ bs) ≡ true = either (bytes_eq (b ∷ bs) (codes "0")) (is_above_zero (b ∷ bs) || is_below_zero (b ∷ bs)) (ap (λ t. t || is_below_zero (b ∷ bs)) above) in
    let minus : (b == 45) ≡ false = ne_eqb b 45 (λ e. omega (arith, e, f)) in
    λ i. cond (text i) (TextToken (without_last bs)) (cond ((letter i && list_all is_in_name bs) && nat_le (length bs) 15) (NameToken (b ∷ bs)) (cond (number i) (NumberToken (b ∷ bs) (cond (minus i && is_above_zero bs) (neg_ℤ (pos (capped bs))) (pos (capped (b ∷ bs))))) (OddToken (b ∷ bs))))

minus_token : (w : List ℕ) → AreDigits w → 48 < slice_index_or w 0 0 → token_of (45 ∷ w) ≡ NumberToken (45 ∷ w) (neg_ℤ (pos (capped w)))
minus_token w d f =
    let above = above_zero w d f in
    λ i. cond (above i) (NumberToken (45 ∷ w) (cond (above i) (neg_ℤ (pos (capped w))) (pos (capped (45 ∷ w))))) (OddToken (45 ∷ w))

-- a digit is a plain byte
plain_digit : (b : ℕ) → is_a_digit b ≡ true → is_plain_byte b ≡ true
plain_digit b h = grind (arith, nat_tests)

plain_bytes : (w : List ℕ) → AreDigits w → list_all is_plain_byte w ≡ true
plain_bytes [] d = refl
plain_bytes (b ∷ bs) d =
    let k = and_parts (is_a_digit b) (list_all is_a_digit bs) d in
    and_from (is_plain_byte b) (list_all is_plain_byte bs) (plain_digit b k.0) (plain_bytes bs k.1)

plain_digits : (w : List ℕ) → AreDigits w → 0 < length w → length w ≤ 16 → is_plain w ≡ true
plain_digits [] d some few = absurd (omega (arith, some))
plain_digits (b ∷ bs) d some few = and_from (list_all is_plain_byte (b ∷ bs)) (nat_le (length bs) 15) (plain_bytes (b ∷ bs) d) (le-leb (length bs) 15 (omega (arith, few)))

-- the digits of a number above 0
record AreDigitsOf (n : ℕ) : Type 0 where
  digits : AreDigits (decimal n)
  first : 48 < slice_index_or (decimal n) 0 0
  value : capped (decimal n) ≡ n
  some : 0 < length (decimal n)
  few : length (decimal n) ≤ 6

digits_of : (n : ℕ) → 0 < n → n < 100000 → AreDigitsOf n
digits_of n positive small =
    let own = numerals_by_value AreDigits tells_digits_so in
    let value = digits_value-decimal own n (omega (arith, small)) in
    record {
      digits = digits_decimal own n (omega (arith, small));
      first = first_decimal n positive (omega (arith, small));
      value = omega (arith, value, small);
      some = decimal_nonempty n (omega (arith, small));
      few = length-decimal-le 6 n (omega arith) (omega (arith, small)) (omega (arith, small));
    }

-- A word that is a number, as it is written.
pub record IsNumber (z : ℤ) : Type 0 where
  pub plain : is_plain (signed_decimal z) ≡ true
  pub token : token_of (signed_decimal z) ≡ NumberToken (signed_decimal z) z

-- Numbers are so written.
pub numbers_read_back : (n : ℕ) → n < 100000 → IsNumber (pos n)
unfolding digits
numbers_read_back zero small = record { plain = refl; token = refl }
numbers_read_back (suc n) small =
    let k = digits_of (suc n) (omega arith) small in
    record {
      plain = plain_digits (decimal (suc n)) k.digits k.some (omega (arith, k.few));
      token = digits_token (decimal (suc n)) k.digits k.first ∙ ap (λ v. NumberToken (decimal (suc n)) (pos v)) k.value;
    }

-- So are those below 0.
negative_read_back : (n : ℕ) → suc n < 100000 → IsNumber (negsuc n)
negative_read_back n small =
    let k = digits_of (suc n) (omega arith) small in
    record {
      plain = and_from (list_all is_plain_byte (decimal (suc n))) _ (plain_bytes (decimal (suc n)) k.digits) (le-leb (length (decimal (suc n))) 15 (omega (arith, k.few)));
      token = minus_token (decimal (suc n)) k.digits k.first ∙ ap (λ v. NumberToken (45 ∷ decimal (suc n)) (neg_ℤ (pos v))) k.value;
    }

pub coordinate_read_back : (z : ℤ) → is_coordinate z ≡ true → IsNumber z
coordinate_read_back (pos n) h =
    let high = within_high (negsuc 32767) (pos n) (pos 32767) h in
    numbers_read_back n (omega (arith, ints))
coordinate_read_back (negsuc n) h =
    let low = within_low (negsuc 32767) (negsuc n) (pos 32767) h in
    negative_read_back n (omega (arith, ints))
