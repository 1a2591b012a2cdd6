-- The pixels that two rectangles have in common.
use Rattle.std.proofs.Common.{◌≡◌, Bool, true, false, ◌&&◌, ◌↔◌, ℤ, refl, sym, ◌∙◌, arith, Option, Some, None, IfSome, IsNone}
use Rattle.std.specs.Option.{SomeIff}
use Rattle.std.specs.Int.{int_max, int_min}
use Rattle.std.proofs.lemmas.Bool.{and_parts, and_from, false_from_ne_true, false≢true}
use Rattle.std.proofs.lemmas.Int.{ints}
use Rattle.lw_region.specs.Rectangle.{Rectangle, within, has_pixel, IsOrdered, AreApart, common_part}
use Rattle.lw_region.proofs.Within.{within_true, within_low, within_high, within_both}

-- two pairs of tests in another order
pub and_swap : (p q r s : Bool) → ((p && q) && (r && s)) ≡ ((p && r) && (q && s))
and_swap true q true s = refl
and_swap true true false s = refl
and_swap true false false s = refl
and_swap false q r s = refl

-- the common part has the pixels that are in both
pub common_pixels : (a b : Rectangle) (x y : ℤ) → has_pixel (common_part a b) x y ≡ (has_pixel a x y && has_pixel b x y)
common_pixels a b x y =
    rw (within_both a.min_x b.min_x x a.max_x b.max_x, within_both a.min_y b.min_y y a.max_y b.max_y)
    (and_swap (within a.min_x x a.max_x) (within b.min_x x b.max_x) (within a.min_y y a.max_y) (within b.min_y y b.max_y))

-- a rectangle with a pixel is ordered
pub ordered_from_pixel : (r : Rectangle) (x y : ℤ) → has_pixel r x y ≡ true → IsOrdered r
ordered_from_pixel r x y h =
    let p = and_parts _ _ h in
    let a = within_low r.min_x x r.max_x p.0 in
    let b = within_high r.min_x x r.max_x p.0 in
    let d = within_low r.min_y y r.max_y p.1 in
    let e = within_high r.min_y y r.max_y p.1 in
    record { columns = omega (arith, ints); rows = omega (arith, ints) }

-- an ordered rectangle has its top left pixel
pub corner_in : (r : Rectangle) → IsOrdered r → has_pixel r r.min_x r.min_y ≡ true
corner_in r h =
    and_from _ _ (within_true r.min_x r.min_x r.max_x (omega (arith, ints)) h.columns)
    (within_true r.min_y r.min_y r.max_y (omega (arith, ints)) h.rows)

-- rectangles whose common part is not ordered have no pixel in common
pub apart_from_unordered : (a b : Rectangle) → (IsOrdered (common_part a b) → ⊥) → AreApart a b
apart_from_unordered a b h x y =
    false_from_ne_true _ (λ t. h (ordered_from_pixel (common_part a b) x y (common_pixels a b x y ∙ t)))

-- rectangles whose common part is ordered have a pixel in common
pub not_apart : (a b : Rectangle) → IsOrdered (common_part a b) → AreApart a b → ⊥
not_apart a b h apart =
    let p = common_part a b in
    false≢true (sym (apart p.min_x p.min_y) ∙ (sym (common_pixels a b p.min_x p.min_y) ∙ corner_in p h))

-- the answer of `meet` in terms of the common part
pub meet_bounds : (r : Option Rectangle) (a b : Rectangle) (x₀ y₀ x₁ y₁ : ℤ) → x₀ ≡ int_max a.min_x b.min_x → y₀ ≡ int_max a.min_y b.min_y
    → x₁ ≡ int_min a.max_x b.max_x → y₁ ≡ int_min a.max_y b.max_y
    → SomeIff r (IsOrdered (record { min_x = x₀; min_y = y₀; max_x = x₁; max_y = y₁ })) (record { min_x = x₀; min_y = y₀; max_x = x₁; max_y = y₁ })
    → SomeIff r (IsOrdered (common_part a b)) (common_part a b)
meet_bounds r a b x₀ y₀ x₁ y₁ e f g h s = rw (e, f, g, h) at s

-- what `meet` gives has the pixels that are in both
pub meet_pixels : (r : Option Rectangle) (a b : Rectangle) → SomeIff r (IsOrdered (common_part a b)) (common_part a b)
    → IfSome r (λ p. (x y : ℤ) → has_pixel p x y ≡ (has_pixel a x y && has_pixel b x y))
meet_pixels None a b s = tt
meet_pixels (Some p) a b s = λ x y. rw s.1 (common_pixels a b x y)

-- `meet` gives nothing exactly where no pixel is in both
pub meet_none : (r : Option Rectangle) (a b : Rectangle) → SomeIff r (IsOrdered (common_part a b)) (common_part a b)
    → IsNone r ↔ AreApart a b
meet_none None a b s = (λ _. apart_from_unordered a b s, λ _. refl)
meet_none (Some p) a b s = (λ n. absurd (false≢true (sym n)), λ apart. absurd (not_apart a b s.0 apart))

-- two rectangles with the same four bounds are one
pub same_bounds : (a b c d e f g h : ℤ) → a ≡ e → b ≡ f → c ≡ g → d ≡ h
    → ◌≡◌ {A = Rectangle} (record { min_x = a; min_y = b; max_x = c; max_y = d }) (record { min_x = e; min_y = f; max_x = g; max_y = h })
same_bounds a b c d e f g h p q r s = rw (p, q, r, s)
