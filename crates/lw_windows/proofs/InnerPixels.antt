-- Which pixels the inner rectangle has.
use Rattle.std.proofs.Common.{◌≡◌, ℕ, ◌+◌, Bool, true, false, ◌&&◌, ◌↔◌, nat_le, nat_lt, ℤ, pos, negsuc, ◌-ℤ◌, Option, Some, None, IfSome, IsNone, refl, sym, ◌∙◌, arith}
use Rattle.std.specs.Option.{SomeIff}
use Rattle.std.proofs.lemmas.Bool.Decides.{nat_tests}
use Rattle.std.proofs.lemmas.Bool.{and_left, and_right, false_from_ne_true, false≢true}
use Rattle.std.proofs.lemmas.Int.{ints}
use Rattle.lw_region.specs.Rectangle.{Rectangle, within, has_pixel, IsOrdered}
use Rattle.lw_region.proofs.Meet.{ordered_from_pixel, corner_in}
use Rattle.lw_region.proofs.Lists.{and_alike}
use Rattle.lw_machine.specs.Kept.{holds_at, in_inner}

abbrev with_bounds : ℤ → ℤ → ℤ → ℤ → Rectangle
with_bounds left top right bottom = record { min_x = left; min_y = top; max_x = right; max_y = bottom }

-- what is made is the rectangle with these bounds, and nothing where they are out of order
abbrev pub IsMade : Option Rectangle → Rectangle → Type 0
IsMade r bounds = SomeIff r (IsOrdered bounds) bounds

-- the bounds of what a frame leaves, and of a whole layer
abbrev pub inner_bounds : Bool → ℕ → ℕ → Rectangle
inner_bounds true w h = with_bounds (pos 4) (pos 11) ((pos w -ℤ pos 1) -ℤ pos 4) ((pos h -ℤ pos 1) -ℤ pos 2)
inner_bounds false w h = with_bounds (pos 0) (pos 0) (pos w -ℤ pos 1) (pos h -ℤ pos 1)

-- along one axis: from low on, and so far from the end
framed_axis : (low border count x : ℕ)
    → within (pos low) (pos x) ((pos count -ℤ pos 1) -ℤ pos border) ≡ (nat_le low x && nat_lt (x + border) count)
unfolding within
framed_axis low border count x = grind (arith, ints, nat_tests)

plain_axis : (count x : ℕ) → within (pos 0) (pos x) (pos count -ℤ pos 1) ≡ nat_lt x count
unfolding within
plain_axis count x = grind (arith, ints, nat_tests)

-- no number below 0 is between bounds that aren't
below_axis : (low x : ℕ) (high : ℤ) → within (pos low) (negsuc x) high ≡ false
unfolding within
below_axis low x high = refl

-- the bounds have the pixels of the inner rectangle
pub inner_pixels : (framed : Bool) (w h : ℕ) (x y : ℤ)
    → has_pixel (inner_bounds framed w h) x y ≡ holds_at (in_inner framed w h) x y
unfolding in_inner
inner_pixels true w h (pos x) (pos y) = and_alike _ _ _ _ (framed_axis 4 4 w x) (framed_axis 11 2 h y)
inner_pixels true w h (pos x) (negsuc y) = and_right _ _ (below_axis 11 y ((pos h -ℤ pos 1) -ℤ pos 2))
inner_pixels true w h (negsuc x) y = and_left _ _ (below_axis 4 x ((pos w -ℤ pos 1) -ℤ pos 4))
inner_pixels false w h (pos x) (pos y) = and_alike _ _ _ _ (plain_axis w x) (plain_axis h y)
inner_pixels false w h (pos x) (negsuc y) = and_right _ _ (below_axis 0 y (pos h -ℤ pos 1))
inner_pixels false w h (negsuc x) y = and_left _ _ (below_axis 0 x (pos w -ℤ pos 1))

-- what is made has the pixels of the bounds,
pub made_pixels : (r : Option Rectangle) (bounds : Rectangle) (test : ℤ → ℤ → Bool) → IsMade r bounds
    → ((x y : ℤ) → has_pixel bounds x y ≡ test x y) → IfSome r (λ p. (x y : ℤ) → has_pixel p x y ≡ test x y)
made_pixels None bounds test made same = tt
made_pixels (Some p) bounds test made same = λ x y. rw made.1 (same x y)

-- and nothing is made exactly where there is no pixel.
pub made_none : (r : Option Rectangle) (left top : ℕ) (right bottom : ℤ) (test : ℕ → ℕ → Bool)
    → IsMade r (with_bounds (pos left) (pos top) right bottom)
    → ((x y : ℤ) → has_pixel (with_bounds (pos left) (pos top) right bottom) x y ≡ holds_at test x y)
    → IsNone r ↔ ((x y : ℕ) → test x y ≡ false)
made_none None left top right bottom test made same =
    (λ _. λ x y. false_from_ne_true _ (λ t. made (ordered_from_pixel _ (pos x) (pos y) (same (pos x) (pos y) ∙ t))), λ _. refl)
made_none (Some p) left top right bottom test made same = (
  λ n. absurd (false≢true (sym n)),
  λ none. absurd (false≢true (sym (none left top) ∙ (sym (same (pos left) (pos top)) ∙ corner_in _ made.0))),
)

-- what is made with these bounds is made with any that are equal to them
pub made_is : (r : Option Rectangle) (a b c d e f g h : ℤ) → a ≡ e → b ≡ f → c ≡ g → d ≡ h
    → IsMade r (with_bounds a b c d) → IsMade r (with_bounds e f g h)
made_is r a b c d e f g h p q s t made = rw (p, q, s, t) at made
