-- The layers in front of a layer in a list are what covers it.
use Rattle.std.proofs.Common.{◌≡◌, ℕ, ◌+◌, ◌*◌, ◌<◌, ◌≤◌, ◌==◌, Bool, true, false, not, ◌&&◌, ◌||◌, List, [], ◌∷◌, length, ℤ, pos}
use Rattle.std.proofs.Common.{◌+ℤ◌, ◌-ℤ◌, ◌≤ℤ◌, int_le, Option, Some, None, refl, sym, ap, ◌∙◌, arith, eqb-true}
use Rattle.std.specs.Prelude.{if◌then◌else◌, find}
use Rattle.std.specs.List.{list_any}
use Rattle.std.proofs.lemmas.Bool.{false≢true, and_parts, and_from}
use Rattle.std.proofs.lemmas.Int.{ints}
use Rattle.std.proofs.Math.Nat.{mul-le-mul_left, mul_comm}
use Rattle.lw_region.specs.Rectangle.{Rectangle, within, has_pixel}
use Rattle.lw_region.specs.Pixels.{contains_pixel, pixels_of, difference}
use Rattle.lw_region.specs.Bands.{bands, covers}
use Rattle.lw_region.specs.Banded.{IsCanonical}
use Rattle.lw_cliprects.specs.Parts.{hidden_of}
use Rattle.lw_region.proofs.Canonical.{covers_nil, covers_cons}
use Rattle.lw_region.proofs.Numbers.{le_of}
use Rattle.lw_region.proofs.Within.{within_true, within_low, within_high}
use Rattle.lw_calls.specs.declared.sizes.Sizes.{Sizes}
use Rattle.lw_calls.specs.Orders.{occurrences}
use Rattle.lw_machine.specs.Desk.{is_the}
use Rattle.lw_machine.specs.Screen.{bounds_have, screen_bounds}
use Rattle.lw_machine.specs.Arrangement.{is_on_screen}
use Rattle.lw_bounds.specs.Cuts.{IsVisible, rectangle_count}
use Rattle.lw_bounds.specs.Fronts.{in_front_of, front_count, is_on_top, rectangle_limit, RectanglesInListsAreFew, CountedExamples}
use Rattle.lw_bounds.proofs.UnderCovers.{few_under_covers, few_on_screens}

-- the rectangle of these bounds, if there are some, before others
abbrev with_bounds : Option Rectangle → List Rectangle → List Rectangle
with_bounds None rects = rects
with_bounds (Some r) rects = r ∷ rects

-- the bounds of some slots
abbrev bounds_of : (ℕ → Option Rectangle) → List ℕ → List Rectangle
bounds_of bounds [] = []
bounds_of bounds (t ∷ ts) = with_bounds (bounds t) (bounds_of bounds ts)

bounds_length : (o : Option Rectangle) (rects : List Rectangle) (n : ℕ) → length rects ≤ n → length (with_bounds o rects) ≤ n + 1
bounds_length None rects n h = omega (arith, h)
bounds_length (Some r) rects n h = omega (arith, h)

bounds_few : (bounds : ℕ → Option Rectangle) (ts : List ℕ) → length (bounds_of bounds ts) ≤ length ts
bounds_few bounds [] = omega arith
bounds_few bounds (t ∷ ts) =
    let more = bounds_length (bounds t) (bounds_of bounds ts) (length ts) (bounds_few bounds ts) in omega (arith, more)

-- the bounds of some slots cover what some slot's bounds have
covered : (bounds : ℕ → Option Rectangle) (ts : List ℕ) (x y : ℤ)
    → covers (bounds_of bounds ts) x y ≡ list_any (λ t. bounds_have (bounds t) x y) ts
covered bounds [] x y = covers_nil x y
covered bounds (t ∷ ts) x y = go (bounds t) (covered bounds ts x y)
  where
    go : (o : Option Rectangle) → covers (bounds_of bounds ts) x y ≡ list_any (λ u. bounds_have (bounds u) x y) ts
        → covers (with_bounds o (bounds_of bounds ts)) x y ≡ (bounds_have o x y || list_any (λ u. bounds_have (bounds u) x y) ts)
    go None e = e
    go (Some r) e = covers_cons r (bounds_of bounds ts) x y ∙ ap (λ b. has_pixel r x y || b) e

-- what is found first passes the test
found_passes : (p : ℕ → Bool) (ts : List ℕ) (s : ℕ) → is_the (find p ts) s ≡ true → p s ≡ true
found_passes p [] s is = absurd (cc)
found_passes p (t ∷ ts) s is = go (p t) refl is (found_passes p ts s)
  where
    go : (b : Bool) → p t ≡ b → is_the (if b then Some t else find p ts) s ≡ true → (is_the (find p ts) s ≡ true → p s ≡ true)
        → p s ≡ true
    go true e h rest = ap p (sym (eqb-true t s h)) ∙ e
    go false e h rest = rest h

not_found : (p : ℕ → Bool) (ts : List ℕ) (s : ℕ) → p s ≡ false → is_the (find p ts) s ≡ false
not_found p ts s fails = go (is_the (find p ts) s) refl
  where
    go : (b : Bool) → is_the (find p ts) s ≡ b → b ≡ false
    go true e = absurd (false≢true (sym fails ∙ found_passes p ts s e))
    go false e = refl

-- of a list that has s, the first element that passes is s where s passes and none before it does
first_is : (p : ℕ → Bool) (ts : List ℕ) (s : ℕ) → 0 < occurrences s ts
    → is_the (find p ts) s ≡ (p s && not (list_any p (in_front_of s ts)))
first_is p [] s has = absurd (omega (arith, has))
first_is p (t ∷ ts) s has = go (t == s) refl (p t) refl has (first_is p ts s)
  where
    go : (same : Bool) → (t == s) ≡ same → (b : Bool) → p t ≡ b → 0 < (if same then 1 else 0) + occurrences s ts
        → (0 < occurrences s ts → is_the (find p ts) s ≡ (p s && not (list_any p (in_front_of s ts))))
        → is_the (if b then Some t else find p ts) s ≡ (p s && not (list_any p (if same then [] else t ∷ in_front_of s ts)))
    go true e true f h rest =
        let passes : p s ≡ true = ap p (sym (eqb-true t s e)) ∙ f in
        e ∙ sym (ap (λ b. b && true) passes)
    go true e false f h rest =
        let fails : p s ≡ false = ap p (sym (eqb-true t s e)) ∙ f in
        not_found p ts s fails ∙ sym (ap (λ b. b && true) fails)
    go false e true f h rest = e ∙ (sym (none (p s)) ∙ ap (λ b. p s && not (b || list_any p (in_front_of s ts))) (sym f))
      where
        none : (b : Bool) → (b && false) ≡ false
        none true = refl
        none false = refl
    go false e false f h rest = rest (omega (arith, h)) ∙ ap (λ b. p s && not (b || list_any p (in_front_of s ts))) (sym f)

-- a square is no less than that of a smaller number
pub squares : (a b : ℕ) → a ≤ b → a * a ≤ b * b
squares a b low =
    let left : a * a ≤ a * b = mul-le-mul_left a low in
    let right : b * a ≤ b * b = mul-le-mul_left b low in
    let turned : a * b ≡ b * a = mul_comm a b in
    omega (arith, left, right, turned)

below : (a b c : ℕ) → a ≤ b → b ≤ c → a ≤ c
below a b c h k = omega (arith, h, k)

-- a place between bounds that lie on the screen is one of the screen
axis_inside : (w : ℕ) (low z high : ℤ) → int_le (pos 0) low ≡ true → int_le (high +ℤ pos 1) (pos w) ≡ true
    → within low z high ≡ true
    → within (pos 0) z (pos w -ℤ pos 1) ≡ true
axis_inside w low z high from to inside =
    let a : pos 0 ≤ℤ low = le_of (pos 0) low from in
    let b : (high +ℤ pos 1) ≤ℤ pos w = le_of (high +ℤ pos 1) (pos w) to in
    let c : low ≤ℤ z = within_low low z high inside in
    let e : z ≤ℤ high = within_high low z high inside in
    within_true (pos 0) z (pos w -ℤ pos 1) (omega (arith, ints)) (omega (arith, ints))

inside : (sizes : Sizes) (r : Rectangle) (x y : ℤ) → is_on_screen sizes r ≡ true → has_pixel r x y ≡ true
    → has_pixel (screen_bounds sizes) x y ≡ true
unfolding is_on_screen
inside sizes r x y on has =
    let sides = and_parts _ _ on in
    let across = and_parts (int_le (pos 0) r.min_x) _ sides.0 in
    let down = and_parts (int_le (pos 0) r.min_y) _ sides.1 in
    let place = and_parts (within r.min_x x r.max_x) _ has in
    and_from _ _ (axis_inside sizes.width r.min_x x r.max_x across.0 across.1 place.0)
    (axis_inside sizes.height r.min_y y r.max_y down.0 down.1 place.1)

-- what is on the screen, of the layer and under no cover, in another order; and without the screen where the layer lies on it
other_order : (on own free : Bool) → (on && (own && free)) ≡ (own && (on && free))
other_order true own free = refl
other_order false true free = refl
other_order false false free = refl

all_on : (on own free : Bool) → (own ≡ true → on ≡ true) → (on && (own && free)) ≡ (own && free)
all_on on true free is = ap (λ b. b && free) (is refl)
all_on true false free is = refl
all_on false false free is = refl

module _ (sizes : Sizes) (bounds : ℕ → Option Rectangle) (slots : List ℕ) (s : ℕ) (own : Rectangle) (visible : List Rectangle)
    (has : 0 < occurrences s slots) (is_own : bounds s ≡ Some own) (canonical : IsCanonical visible)
    (shown : (x y : ℤ) → is_on_top sizes bounds slots s x y ≡ covers visible x y) where
  abbrev ts : List ℕ
  ts = in_front_of s slots

  abbrev front : List Rectangle
  front = bounds_of bounds ts

  abbrev on : ℤ → ℤ → Bool
  on x y = has_pixel (screen_bounds sizes) x y

  seen : (x y : ℤ) → covers visible x y ≡ (on x y && (has_pixel own x y && not (covers front x y)))
  seen x y = sym (shown x y) ∙ go (on x y)
    where
      go : (b : Bool) → is_the (if b then find (λ t. bounds_have (bounds t) x y) slots else None) s ≡
          (b && (has_pixel own x y && not (covers front x y)))
      go true =
          first_is (λ t. bounds_have (bounds t) x y) slots s has ∙
          (ap (λ o. bounds_have o x y && not (list_any (λ t. bounds_have (bounds t) x y) ts)) is_own ∙
          ap (λ b. has_pixel own x y && not b) (sym (covered bounds ts x y)))
      go false = refl

  few : (b : Bool) → is_on_screen sizes own ≡ b → rectangle_count own visible ≤ rectangle_limit b (front_count s slots)
  few true lies =
      let is : IsVisible own (λ x y. not (covers front x y)) visible = record {
        canonical = canonical;
        pixels = λ x y. seen x y ∙ all_on (on x y) (has_pixel own x y) (not (covers front x y)) (inside sizes own x y lies);
      } in
      let fewer = bounds_few bounds ts in
      below (rectangle_count own visible) _ _ (few_under_covers own front visible is)
      (squares (2 * length front + 1) (2 * length ts + 1) (omega (arith, fewer)))
  few false lies =
      let is : IsVisible own (λ x y. on x y && not (covers front x y)) visible = record {
        canonical = canonical;
        pixels = λ x y. seen x y ∙ other_order (on x y) (has_pixel own x y) (not (covers front x y));
      } in
      let fewer = bounds_few bounds ts in
      below (rectangle_count own visible) _ _ (few_on_screens own (screen_bounds sizes) front visible is)
      (squares (2 * length front + 3) (2 * length ts + 3) (omega (arith, fewer)))

pub lists_few : RectanglesInListsAreFew
lists_few sizes bounds slots s own visible has is_own canonical shown =
    few sizes bounds slots s own visible has is_own canonical shown (is_on_screen sizes own) refl

pub counted : CountedExamples
unfolding contains_pixel pixels_of difference bands hidden_of
counted = record { first = refl; third = refl; one_cover = refl }
