-- Whether some pixel of a table passes a test.
use Rattle.std.proofs.Common.{◌≡◌, ℕ, ◌<◌, ◌==◌, Bool, true, false, not, ◌&&◌, nat_lt, List, [], ◌∷◌, length, get_or, refl, sym, ap, ◌∙◌, ⊎_elim, arith, ℤ, pos, negsuc}
use Rattle.std.specs.List.{list_any, range_with_len}
use Rattle.std.proofs.lemmas.Bool.{cases_Bool, both_ways, false_from_ne_true, and_parts, ltb-true}
use Rattle.std.proofs.lemmas.Bool.Decides.{nat_tests}
use Rattle.std.proofs.lemmas.List.Folds.{list_any_at, list_any_none}
use Rattle.std.proofs.lemmas.List.FromFn.{length-range_with_len, get_or-range_with_len}
use Rattle.lw_region.specs.Rectangle.{Rectangle}
use Rattle.lw_region.specs.Bands.{covers}
use Rattle.lw_region.specs.Banded.{IsCanonical}
use Rattle.lw_region.proofs.Canonical.{covers_nil}
use Rattle.lw_region.proofs.SetOps.{canonical_empty}
use Rattle.lw_machine.specs.Kept.{holds_at}
use Rattle.lw_machine.specs.Reveal.{some_pixel}

-- no number below n passes a test that none of them passes, and some number does that one passes
none_below : (test : ℕ → Bool) (n : ℕ) → ((k : ℕ) → k < n → test k ≡ false) → list_any test (range_with_len 0 n) ≡ false
none_below test n none =
    list_any_none test (range_with_len 0 n)
    (λ k d inside.
    let low : k < n = omega (arith, length-range_with_len 0 n, inside) in
    let here : get_or (range_with_len 0 n) k d ≡ k = get_or-range_with_len 0 n k d low ∙ omega arith in
    ap test here ∙ none k low)

one_below : (test : ℕ → Bool) (n k : ℕ) → k < n → test k ≡ true → list_any test (range_with_len 0 n) ≡ true
one_below test n k low is =
    let here : get_or (range_with_len 0 n) k 0 ≡ k = get_or-range_with_len 0 n k 0 low ∙ omega arith in
    list_any_at test (range_with_len 0 n) k 0 (omega (arith, length-range_with_len 0 n, low)) (ap test here ∙ is)

-- no pixel is such where none of the table is
pub none_within : (w h : ℕ) (test : ℕ → ℕ → Bool) → ((x y : ℕ) → x < w → y < h → test x y ≡ false) → some_pixel w h test ≡ false
unfolding some_pixel
none_within w h test none = none_below _ h (λ y low. none_below (λ x. test x y) w (λ x left. none x y left low))

-- some pixel is such where one of the table is
pub one_within : (w h : ℕ) (test : ℕ → ℕ → Bool) (x y : ℕ) → x < w → y < h → test x y ≡ true → some_pixel w h test ≡ true
unfolding some_pixel
one_within w h test x y left low is =
    one_below (λ j. list_any (λ i. test i j) (range_with_len 0 w)) h y low (one_below (λ i. test i y) w x left is)

-- Some pixel of a table passes the test exactly where there is a rectangle, of those that have the pixels which pass it.
pub some_covered : (w h : ℕ) (test : ℕ → ℕ → Bool) (rects : List Rectangle) → IsCanonical rects
    → ((x y : ℤ) → covers rects x y ≡ holds_at (λ i j. (nat_lt i w && nat_lt j h) && test i j) x y)
    → not (length rects == 0) ≡ some_pixel w h test
some_covered w h test [] canonical are =
    sym (none_within w h test
    (λ x y left low.
    let inside : ((nat_lt x w && nat_lt y h) && test x y) ≡ test x y = rw (nat_true x w left, nat_true y h low) refl in
    sym inside ∙ (sym (are (pos x) (pos y)) ∙ covers_nil (pos x) (pos y))))
  where
    nat_true : (m n : ℕ) → m < n → nat_lt m n ≡ true
    nat_true m n low = grind (arith, nat_tests)
some_covered w h test (r ∷ rs) canonical are =
    let some : (length (r ∷ rs) == 0) ≡ false = grind (arith, nat_tests) in
    ap not some ∙ sym (⊎_elim (λ is. is) (λ never. absurd (cc (empty never))) (cases_Bool (some_pixel w h test)))
  where
    none_at : some_pixel w h test ≡ false → (x y : ℕ) → ((nat_lt x w && nat_lt y h) && test x y) ≡ false
    none_at never x y =
        false_from_ne_true ((nat_lt x w && nat_lt y h) && test x y)
        (λ has.
        let parts = and_parts (nat_lt x w && nat_lt y h) (test x y) has in
        let place = and_parts (nat_lt x w) (nat_lt y h) parts.0 in
        both_ways (some_pixel w h test) never (one_within w h test x y (ltb-true x w place.0) (ltb-true y h place.1) parts.1))

    none : some_pixel w h test ≡ false → (x y : ℤ) → holds_at (λ i j. (nat_lt i w && nat_lt j h) && test i j) x y ≡ false
    none never (pos x) (pos y) = none_at never x y
    none never (pos x) (negsuc y) = refl
    none never (negsuc x) y = refl

    empty : some_pixel w h test ≡ false → r ∷ rs ≡ []
    empty never = canonical_empty (r ∷ rs) canonical (λ x y. are x y ∙ none never x y)
