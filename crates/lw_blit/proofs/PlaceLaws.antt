-- Laws of the columns and rows that a blit reaches.
use Rattle.std.proofs.Common.{◌≡◌, ℕ, max, Bool, true, false, ◌&&◌, ◌||◌, not, ◌∙◌, sym, refl, ap, ℤ, pos, ◌+ℤ◌, ◌-ℤ◌, ◌≤ℤ◌, int_le, arith}
use Rattle.std.specs.Int.{int_min, int_max}
use Rattle.std.proofs.lemmas.Bool.Decides.{nat_tests}
use Rattle.std.proofs.lemmas.Int.{ints}
use Rattle.lw_region.specs.Rectangle.{within}
use Rattle.lw_kernels.specs.Kernel.{is_between}
use Rattle.lw_blit.specs.Blitting.{has_place}

-- what is no less than both, and what is no less than one of two
past_both : (a b z : ℤ) → int_le (int_max a b) z ≡ (int_le a z && int_le b z)
past_both a b z = grind (arith, ints)

past_one : (a b z : ℤ) → int_le (int_min a b) z ≡ (int_le a z || int_le b z)
past_one a b z = grind (arith, ints)

-- places of a list
inside_place : (place past z : ℤ) → within place z (past -ℤ pos 1) ≡ (int_le place z && not (int_le past z))
unfolding within
inside_place place past z = grind (arith, ints)

-- tests that hold together
same_test : (a b c d : ℤ) → (a ≤ℤ b → c ≤ℤ d) → (c ≤ℤ d → a ≤ℤ b) → int_le a b ≡ int_le c d
same_test a b c d one other = grind (arith, ints)

shifted_low : (place source z : ℤ) → int_le (pos 0) (z +ℤ (source -ℤ place)) ≡ int_le (place -ℤ source) z
shifted_low place source z = same_test (pos 0) (z +ℤ (source -ℤ place)) (place -ℤ source) z (λ e. omega (arith, ints)) (λ e. omega (arith, ints))

shifted_high : (place source z : ℤ) (extent : ℕ) → int_le (pos extent) (z +ℤ (source -ℤ place)) ≡ int_le ((place -ℤ source) +ℤ pos extent) z
shifted_high place source z extent = same_test (pos extent) (z +ℤ (source -ℤ place)) ((place -ℤ source) +ℤ pos extent) z (λ e. omega (arith, ints)) (λ e. omega (arith, ints))

-- and those whose sources lie in the source
source_in : (place source z : ℤ) (extent : ℕ) → has_place extent (z +ℤ (source -ℤ place)) ≡ (int_le (place -ℤ source) z && not (int_le ((place -ℤ source) +ℤ pos extent) z))
source_in place source z extent =
    ap (λ t. t && not (int_le (pos extent) (z +ℤ (source -ℤ place)))) (shifted_low place source z) ∙
    ap (λ t. int_le (place -ℤ source) z && not t) (shifted_high place source z extent)

-- places from one on, before another that may be less
between_places : (from behind u : ℕ) → is_between from (max behind from) u ≡ (int_le (pos from) (pos u) && not (int_le (pos behind) (pos u)))
between_places from behind u = grind (arith, ints, nat_tests)

-- four tests in another order
four_tests : (a b c d : Bool) → ((a && not b) && (c && not d)) ≡ ((a && c) && not (b || d))
four_tests true true true d = refl
four_tests true true false d = refl
four_tests true false true d = refl
four_tests true false false d = refl
four_tests false b c d = refl

-- the greater and the lesser of two places that are known
pub greater_is : (a b c d e : ℤ) → e ≡ int_max a b → a ≡ c → b ≡ d → e ≡ int_max c d
greater_is a b c d e is first second = is ∙ (ap (λ z. int_max z b) first ∙ ap (λ z. int_max c z) second)

pub lesser_is : (a b c d e : ℤ) → e ≡ int_min a b → a ≡ c → b ≡ d → e ≡ int_min c d
lesser_is a b c d e is first second = is ∙ (ap (λ z. int_min z b) first ∙ ap (λ z. int_min c z) second)

-- the places that are reached
pub places_reached : (place count source first past : ℤ) (extent from behind end u : ℕ) → first ≡ int_max place (place -ℤ source) → past ≡ int_min (place +ℤ count) ((place -ℤ source) +ℤ pos extent) → end ≡ max behind from → int_le first (pos u) ≡ int_le (pos from) (pos u) → int_le past (pos u) ≡ int_le (pos behind) (pos u) → (within place (pos u) ((place +ℤ count) -ℤ pos 1) && has_place extent (pos u +ℤ (source -ℤ place))) ≡ is_between from end u
places_reached place count source first past extent from behind end u starts ends last one other =
    let shift = place -ℤ source in
    let all = place +ℤ count in
    let low : (int_le place (pos u) && int_le shift (pos u)) ≡ int_le (pos from) (pos u) = sym (past_both place shift (pos u)) ∙ (ap (λ z. int_le z (pos u)) (sym starts) ∙ one) in
    let high : (int_le all (pos u) || int_le (shift +ℤ pos extent) (pos u)) ≡ int_le (pos behind) (pos u) = sym (past_one all (shift +ℤ pos extent) (pos u)) ∙ (ap (λ z. int_le z (pos u)) (sym ends) ∙ other) in
    ap (λ t. t && has_place extent (pos u +ℤ (source -ℤ place))) (inside_place place all (pos u)) ∙
    (ap (λ t. (int_le place (pos u) && not (int_le all (pos u))) && t) (source_in place source (pos u) extent) ∙
    (four_tests (int_le place (pos u)) (int_le all (pos u)) (int_le shift (pos u)) (int_le (shift +ℤ pos extent) (pos u)) ∙
    (ap (λ t. t && not (int_le all (pos u) || int_le (shift +ℤ pos extent) (pos u))) low ∙
    (ap (λ t. int_le (pos from) (pos u) && not t) high ∙
    (sym (between_places from behind u) ∙ ap (λ e. is_between from e u) (sym last))))))
