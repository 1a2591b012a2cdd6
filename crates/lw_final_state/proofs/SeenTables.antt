-- Which pixels the table of a test names, and the canonical list of their rectangles.
use Rattle.std.proofs.Common.{◌≡◌, ◌≢◌, ℕ, zero, suc, ◌+◌, ◌&&◌, ◌||◌, Bool, true, false, if◌then◌else◌, nat_le, nat_lt, ℤ, pos, negsuc, List, [], ◌∷◌, ◌∙◌, sym, refl, ap, ⊎_elim, arith}
use Rattle.std.specs.List.{list_any, flat_map, range_with_len}
use Rattle.std.specs.Ordering.{int_eq}
use Rattle.std.proofs.lemmas.Bool.{cases_eq, false_from_ne_true, and_left, and_right}
use Rattle.std.proofs.lemmas.Bool.Decides.{nat_tests}
use Rattle.std.proofs.Math.Bool.{and-true, or-false, and-false, and_assoc}
use Rattle.lw_region.specs.Rectangle.{Rectangle}
use Rattle.lw_region.specs.Pixels.{Pixel, is_at, contains_pixel}
use Rattle.lw_region.specs.Bands.{bands, covers}
use Rattle.lw_region.specs.Banded.{IsCanonical}
use Rattle.lw_region.proofs.Lists.{any_agree, any_flat_map}
use Rattle.lw_region.proofs.Numbers.{eq_true, eq_of}
use Rattle.lw_region.proofs.Canonical.{canonical_is_bands}
use Rattle.lw_machine.specs.Kept.{holds_at}
use Rattle.lw_machine.specs.Finals.{pixels_where}

-- the number i is among the n numbers from a on
abbrev pub among : ℕ → ℕ → ℕ → Bool
among i a n = nat_le a i && nat_lt i (a + n)

-- equal numbers
same_number : (a i : ℕ) → pos a ≡ pos i → a ≡ i
same_number a i e = cc

-- a number that isn't the first is among the others
among_other : (i a n : ℕ) → a ≢ i → among i (a + 1) n ≡ among i a (suc n)
among_other i a n other = grind (arith, nat_tests)

-- a test of one number, on numbers one after another
any_one : (i : ℕ) (q : ℕ → Bool) (a n : ℕ) → list_any (λ k. int_eq (pos k) (pos i) && q k) (range_with_len a n) ≡ (among i a n && q i)
any_one i q a zero =
    let none : among i a zero ≡ false = grind (arith, nat_tests) in
    ap (λ t. t && q i) (sym none)
any_one i q a (suc n) =
    let rest = any_one i q (a + 1) n in
    ⊎_elim
    (λ (same : a ≡ i).
    let here : int_eq (pos a) (pos i) ≡ true = eq_true (pos a) (pos i) (ap (λ k. pos k) same) in
    let past : among i (a + 1) n ≡ false = grind (arith, nat_tests) in
    let in' : among i a (suc n) ≡ true = grind (arith, nat_tests) in
    ap (λ t. (t && q a) || list_any (λ k. int_eq (pos k) (pos i) && q k) (range_with_len (a + 1) n)) here ∙
    (ap (λ t. q a || t) (rest ∙ ap (λ t. t && q i) past) ∙
    (or-false (q a) ∙ (ap q same ∙ ap (λ t. t && q i) (sym in')))))
    (λ (other : a ≢ i).
    let off : int_eq (pos a) (pos i) ≡ false = false_from_ne_true _ (λ t. other (same_number a i (eq_of (pos a) (pos i) t))) in
    let equal : among i (a + 1) n ≡ among i a (suc n) = among_other i a n other in
    ap (λ t. (t && q a) || list_any (λ k. int_eq (pos k) (pos i) && q k) (range_with_len (a + 1) n)) off ∙
    (rest ∙ ap (λ t. t && q i) equal))
    (cases_eq a i)

-- three tests of which the last fails
and_none : (p q : Bool) → (p && (q && false)) ≡ false
and_none p q = ap (λ t. p && t) (and-false q) ∙ and-false p

-- three tests in another order
and_swap : (a b c : Bool) → (a && (b && c)) ≡ (b && (a && c))
and_swap true b c = refl
and_swap false true c = refl
and_swap false false c = refl

-- no number is negative
never_negative : (k j : ℕ) → int_eq (pos k) (negsuc j) ≡ false
never_negative k j = false_from_ne_true _ (λ t. let e = eq_of (pos k) (negsuc j) t in absurd (cc))

-- a test that fails on each number
any_none : (q : ℕ → Bool) (a n : ℕ) → ((k : ℕ) → q k ≡ false) → list_any q (range_with_len a n) ≡ false
any_none q a zero none = refl
any_none q a (suc n) none = ap (λ t. t || list_any q (range_with_len (a + 1) n)) (none a) ∙ any_none q (a + 1) n none

-- a test on a pixel that is listed where another test holds
any_chosen : (x y : ℤ) (t : Bool) (p : Pixel) → list_any (is_at x y) (if t then p ∷ [] else []) ≡ (int_eq p.x x && (int_eq p.y y && t))
any_chosen x y true p = or-false (is_at x y p) ∙ ap (λ u. int_eq p.x x && u) (sym (and-true (int_eq p.y y)))
any_chosen x y false p = sym (and_none (int_eq p.x x) (int_eq p.y y))

-- a pixel among those of one row
row_has : (w : ℕ) (test : ℕ → ℕ → Bool) (x y : ℤ) (j : ℕ) → list_any (is_at x y) (flat_map (λ i. if test i j then record { x = pos i; y = pos j } ∷ [] else []) (range_with_len 0 w)) ≡ list_any (λ i. int_eq (pos i) x && (int_eq (pos j) y && test i j)) (range_with_len 0 w)
row_has w test x y j =
    any_flat_map (is_at x y) (λ i. if test i j then record { x = pos i; y = pos j } ∷ [] else []) (range_with_len 0 w) ∙
    any_agree _ _ (λ i. any_chosen x y (test i j) (record { x = pos i; y = pos j })) (range_with_len 0 w)

-- a pixel of a row to the right of its left end
row_has_at : (w : ℕ) (test : ℕ → ℕ → Bool) (i j : ℕ) (y : ℤ) → list_any (λ k. int_eq (pos k) (pos i) && (int_eq (pos j) y && test k j)) (range_with_len 0 w) ≡ (int_eq (pos j) y && (among i 0 w && test i j))
row_has_at w test i j y =
    any_one i (λ k. int_eq (pos j) y && test k j) 0 w ∙ and_swap (among i 0 w) (int_eq (pos j) y) (test i j)

-- which pixels a table names
table_has : (w h : ℕ) (test : ℕ → ℕ → Bool) (x y : ℤ) → contains_pixel (pixels_where w h test) x y ≡ list_any (λ j. list_any (λ i. int_eq (pos i) x && (int_eq (pos j) y && test i j)) (range_with_len 0 w)) (range_with_len 0 h)
unfolding contains_pixel
table_has w h test x y =
    any_flat_map (is_at x y) (λ j. flat_map (λ i. if test i j then record { x = pos i; y = pos j } ∷ [] else []) (range_with_len 0 w)) (range_with_len 0 h) ∙
    any_agree _ _ (λ j. row_has w test x y j) (range_with_len 0 h)

-- the places of a table
abbrev pub in_table : ℕ → ℕ → ℕ → ℕ → Bool
in_table w h i j = among j 0 h && among i 0 w

-- which pixels a table names: those of its places for which the test holds
pub pixels_where_has : (w h : ℕ) (test : ℕ → ℕ → Bool) (x y : ℤ) → contains_pixel (pixels_where w h test) x y ≡ holds_at (λ i j. in_table w h i j && test i j) x y
pixels_where_has w h test (pos i) (pos j) =
    table_has w h test (pos i) (pos j) ∙
    (any_agree _ _ (λ k. row_has_at w test i k (pos j)) (range_with_len 0 h) ∙
    (any_one j (λ k. among i 0 w && test i k) 0 h ∙ sym (and_assoc (among j 0 h) (among i 0 w) (test i j))))
pixels_where_has w h test (pos i) (negsuc j) =
    table_has w h test (pos i) (negsuc j) ∙
    any_none _ 0 h (λ k. any_none _ 0 w (λ l. and_right (int_eq (pos l) (pos i)) _ (and_left (int_eq (pos k) (negsuc j)) (test l k) (never_negative k j))))
pixels_where_has w h test (negsuc i) y =
    table_has w h test (negsuc i) y ∙
    any_none _ 0 h (λ k. any_none _ 0 w (λ l. ap (λ t. t && (int_eq (pos k) y && test l k)) (never_negative l i)))

-- a canonical list whose pixels are those of a table's places for which a test holds
pub table_bands : (w h : ℕ) (test : ℕ → ℕ → Bool) (rects : List Rectangle) → IsCanonical rects → ((x y : ℤ) → covers rects x y ≡ holds_at (λ i j. in_table w h i j && test i j) x y) → rects ≡ bands (pixels_where w h test)
table_bands w h test rects canonical same = canonical_is_bands rects (pixels_where w h test) canonical (λ x y. same x y ∙ sym (pixels_where_has w h test x y))
