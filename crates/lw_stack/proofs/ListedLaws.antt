-- The list of what is shown of a layer.
use Rattle.std.proofs.Common.{◌≡◌, ℕ, Bool, true, false, ◌&&◌, List, [], ◌∷◌, ℤ, Option, Some, None, refl, sym, ap, ◌∙◌}
use Rattle.std.specs.List.{filter}
use Rattle.std.specs.Ordering.{int_eq}
use Rattle.std.proofs.lemmas.Bool.{and_parts}
use Rattle.std.proofs.Math.Bool.{and_comm}
use Rattle.lw_region.specs.Rectangle.{Rectangle}
use Rattle.lw_region.specs.Pixels.{Pixel, is_at, contains_pixel}
use Rattle.lw_region.specs.Bands.{covers}
use Rattle.lw_region.proofs.Numbers.{eq_of}
use Rattle.lw_region.proofs.Lists.{any_agree, any_filter, any_and}
use Rattle.lw_region.proofs.Reading.{contains_pixels_of}
use Rattle.lw_region.proofs.Canonical.{covers_bands}
use Rattle.lw_region.proofs.SetOps.{canonical_bands, covers_one}
use Rattle.lw_machine.specs.Screen.{bounds_have}
use Rattle.lw_stack.specs.Stack.{Stack, bounds_at, is_top_in, pixels_in, shown_list}
use Rattle.lw_stack.specs.Laws.{ShownListLaw}
use Rattle.lw_stack.proofs.FirstLaws.{not_top}

-- a test on the pixel at a place is the test on that place
at_test : (f : ℤ → ℤ → Bool) (x y : ℤ) (p : Pixel) → (f p.x p.y && is_at x y p) ≡ (is_at x y p && f x y)
at_test f x y p = by_test (is_at x y p) refl
  where
    by_test : (t : Bool) → is_at x y p ≡ t → (f p.x p.y && t) ≡ (t && f x y)
    by_test true e =
        let parts = and_parts (int_eq p.x x) (int_eq p.y y) e in
        and_comm (f p.x p.y) true ∙ (ap (λ a. f a p.y) (eq_of p.x x parts.0) ∙ ap (λ b. f x b) (eq_of p.y y parts.1))
    by_test false e = and_comm (f p.x p.y) false

-- the pixels of a set for which a test holds
tested_pixels : (f : ℤ → ℤ → Bool) (s : List Pixel) (x y : ℤ)
    → contains_pixel (filter (λ p. f p.x p.y) s) x y ≡ (contains_pixel s x y && f x y)
unfolding contains_pixel
tested_pixels f s x y =
    any_filter (is_at x y) (λ p. f p.x p.y) s
    ∙ (any_agree (λ p. f p.x p.y && is_at x y p) (λ p. is_at x y p && f x y) (at_test f x y) s ∙ any_and (is_at x y) (f x y) s)

-- the pixels of the bounds
in_bounds : (bounds : Option Rectangle) (x y : ℤ) → contains_pixel (pixels_in bounds) x y ≡ bounds_have bounds x y
unfolding contains_pixel
in_bounds None x y = refl
in_bounds (Some r) x y = contains_pixels_of (r ∷ []) x y ∙ covers_one r x y

-- what holds nowhere off the bounds holds in them where it holds
part_of : (has top : Bool) → (has ≡ false → top ≡ false) → (has && top) ≡ top
part_of true top h = refl
part_of false top h = sym (h refl)

pub shown_places : (v : Stack) (s : ℕ) (x y : ℤ) → covers (shown_list v s) x y ≡ is_top_in v s x y
unfolding shown_list
shown_places v s x y =
    let own = bounds_at v.bounds s in
    let on_top = is_top_in v s x y in
    covers_bands (filter (λ p. is_top_in v s p.x p.y) (pixels_in own)) x y
    ∙ (tested_pixels (λ a b. is_top_in v s a b) (pixels_in own) x y
    ∙ (ap (λ h. h && on_top) (in_bounds own x y) ∙ part_of (bounds_have own x y) on_top (not_top v s x y)))

pub shown_list_law : ShownListLaw
unfolding shown_list
shown_list_law v s = (shown_places v s, canonical_bands _)
