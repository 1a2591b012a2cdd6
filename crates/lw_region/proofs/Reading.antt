-- Sets of pixels in reading order: what their operations hold, and that the same pixels make one set.
use Rattle.std.proofs.Common.{◌≡◌, Bool, true, false, not, ◌&&◌, ◌||◌, ◌⊎◌, inl, inr, List, ◌++◌, map, ℤ, ◌<ℤ◌, refl, ap, sym, ◌∙◌, arith}
use Rattle.std.specs.Prelude.{int_lt}
use Rattle.std.specs.List.{list_any, filter, flat_map}
use Rattle.std.specs.Ordering.{int_eq}
use Rattle.std.proofs.lemmas.Int.{ints, by_lt_z}
use Rattle.std.proofs.lemmas.Bool.{false≢true, or_cases, or_left, or_right, and_parts, and_from, and_left, and_right}
use Rattle.std.proofs.lemmas.List.Folds.{list_any-append}
use Rattle.std.proofs.Math.Bool.{and_comm}
use Rattle.lw_region.specs.Rectangle.{Rectangle, within, has_pixel}
use Rattle.lw_region.specs.Order.{IsInOrder, span}
use Rattle.lw_region.specs.Pixels.{Pixel, precedes, is_at, contains_pixel, rectangle_pixels, pixels_of, union, intersection, difference, symmetric_difference}
use Rattle.lw_region.specs.Bands.{covers}
use Rattle.lw_region.proofs.Numbers.{eq_true, eq_above, eq_of, lt_of, of_lt, any_span}
use Rattle.lw_region.proofs.Order.{any_in_order, ordered_in_order, ordered_filter, one_order}
use Rattle.lw_region.proofs.Lists.{any_agree, any_map, any_filter, any_flat_map, any_and}

-- what the reading order says, and how to show it
precedes_cases : (p q : Pixel) → precedes p q ≡ true → (p.y <ℤ q.y) ⊎ ((p.y ≡ q.y) × (p.x <ℤ q.x))
precedes_cases p q h =
    by_lt_z p.y q.y (λ a. inl a) (λ a.
    by_case (or_cases (int_lt p.y q.y) (int_eq p.y q.y && int_lt p.x q.x) h))
  where
    by_case : (int_lt p.y q.y ≡ true) ⊎ ((int_eq p.y q.y && int_lt p.x q.x) ≡ true) → (p.y <ℤ q.y) ⊎ ((p.y ≡ q.y) × (p.x <ℤ q.x))
    by_case (inl e) = inl (lt_of _ _ e)
    by_case (inr e) = let k = and_parts (int_eq p.y q.y) (int_lt p.x q.x) e in inr (eq_of _ _ k.0, lt_of _ _ k.1)

-- a pixel in a row above comes first
precedes_above : (p q : Pixel) → p.y <ℤ q.y → precedes p q ≡ true
precedes_above p q h = or_left (int_lt p.y q.y) (int_eq p.y q.y && int_lt p.x q.x) (of_lt _ _ h)

-- a pixel to the left comes first
precedes_left : (p q : Pixel) → p.y ≡ q.y → p.x <ℤ q.x → precedes p q ≡ true
precedes_left p q e h =
    or_right (int_lt p.y q.y) (int_eq p.y q.y && int_lt p.x q.x) (and_from _ _ (eq_true _ _ e) (of_lt _ _ h))

-- two pixels at one place are one
same_pixel : (p q : Pixel) → p.x ≡ q.x → p.y ≡ q.y → p ≡ q
same_pixel p q e f =
    let P : ℤ → ℤ → Pixel = λ a b. record { x = a; y = b } in
    ap (λ a. P a p.y) e ∙ ap (λ b. P q.x b) f

-- pixels that are neither before the other are one
reading_total : (p q : Pixel) → precedes p q ≡ false → precedes q p ≡ false → p ≡ q
reading_total p q a b =
    let rows : p.y ≡ q.y =
    by_lt_z p.y q.y (λ l. absurd (false≢true (sym a ∙ precedes_above p q l))) (λ l.
    by_lt_z q.y p.y (λ m. absurd (false≢true (sym b ∙ precedes_above q p m))) (λ m. omega (arith, ints))) in
    let columns : p.x ≡ q.x =
    by_lt_z p.x q.x (λ l. absurd (false≢true (sym a ∙ precedes_left p q rows l))) (λ l.
    by_lt_z q.x p.x (λ m. absurd (false≢true (sym b ∙ precedes_left q p (sym rows) m))) (λ m. omega (arith, ints))) in
    same_pixel p q columns rows

-- the four ways of three pixels
trans_step : (p q r : Pixel) → (p.y <ℤ q.y) ⊎ ((p.y ≡ q.y) × (p.x <ℤ q.x)) → (q.y <ℤ r.y) ⊎ ((q.y ≡ r.y) × (q.x <ℤ r.x)) → precedes p r ≡ true
trans_step p q r (inl a) (inl b) = precedes_above p r (omega (arith, ints))
trans_step p q r (inl a) (inr b) = let e = b.0 in precedes_above p r (omega (arith, ints))
trans_step p q r (inr a) (inl b) = let e = a.0 in precedes_above p r (omega (arith, ints))
trans_step p q r (inr a) (inr b) = let l = a.1 in let m = b.1 in precedes_left p r (a.0 ∙ b.0) (omega (arith, ints))

-- the reading order goes on
reading_trans : (p q r : Pixel) → precedes p q ≡ true → precedes q r ≡ true → precedes p r ≡ true
reading_trans p q r a b = trans_step p q r (precedes_cases p q a) (precedes_cases q r b)

-- the test that two pixels are one
abbrev is_pixel : Pixel → Pixel → Bool
is_pixel p q = is_at q.x q.y p

-- a pixel before another is not that one
apart_step : (p q : Pixel) → (p.y <ℤ q.y) ⊎ ((p.y ≡ q.y) × (p.x <ℤ q.x)) → is_pixel q p ≡ false
apart_step p q (inl a) = and_right (int_eq q.x p.x) (int_eq q.y p.y) (eq_above q.y p.y a)
apart_step p q (inr a) = and_left (int_eq q.x p.x) (int_eq q.y p.y) (eq_above q.x p.x a.1)

-- a pixel passes its own test
is_itself : (p : Pixel) → is_pixel p p ≡ true
is_itself p = and_from (int_eq p.x p.x) (int_eq p.y p.y) (eq_true p.x p.x refl) (eq_true p.y p.y refl)

-- a pixel that passes the test of another is that one
is_equal : (p q : Pixel) → is_pixel p q ≡ true → p ≡ q
is_equal p q h =
    let k = and_parts (int_eq p.x q.x) (int_eq p.y q.y) h in same_pixel p q (eq_of _ _ k.0) (eq_of _ _ k.1)

-- two sets with the same pixels are one
pub one_set : (s t : List Pixel) → IsInOrder precedes s → IsInOrder precedes t
    → ((x y : ℤ) → contains_pixel s x y ≡ contains_pixel t x y) → s ≡ t
unfolding contains_pixel
one_set s t h k e =
    one_order precedes is_pixel reading_total reading_trans is_itself is_equal (λ p q a. apart_step p q (precedes_cases p q a))
    s t h k (λ c. e c.x c.y)

-- the sets that are made are in reading order
pub ordered_pixels : (rects : List Rectangle) → IsInOrder precedes (pixels_of rects)
unfolding pixels_of
ordered_pixels rects = ordered_in_order precedes reading_trans (flat_map rectangle_pixels rects)

-- a union is in reading order
pub ordered_union : (s t : List Pixel) → IsInOrder precedes (union s t)
unfolding union
ordered_union s t = ordered_in_order precedes reading_trans (s ++ t)

-- an intersection is in reading order
pub ordered_intersection : (s t : List Pixel) → IsInOrder precedes s → IsInOrder precedes (intersection s t)
unfolding intersection
ordered_intersection s t h = ordered_filter precedes (λ p. contains_pixel t p.x p.y) s h

-- a difference is in reading order
pub ordered_difference : (s t : List Pixel) → IsInOrder precedes s → IsInOrder precedes (difference s t)
unfolding difference
ordered_difference s t h = ordered_filter precedes (λ p. not (contains_pixel t p.x p.y)) s h

-- a symmetric difference is in reading order
pub ordered_symmetric : (s t : List Pixel) → IsInOrder precedes (symmetric_difference s t)
unfolding symmetric_difference
ordered_symmetric s t = ordered_union (difference s t) (difference t s)

-- the pixels of the sets that are made
pub contains_union : (s t : List Pixel) (x y : ℤ) → contains_pixel (union s t) x y ≡ (contains_pixel s x y || contains_pixel t x y)
unfolding union contains_pixel
contains_union s t x y = any_in_order precedes reading_total (is_at x y) (s ++ t) ∙ list_any-append (is_at x y) s t

-- a test on a pixel that is at a place or not
at_test_step : (f : ℤ → ℤ → Bool) (x y : ℤ) (p : Pixel) (t : Bool) → is_at x y p ≡ t → (f p.x p.y && t) ≡ (t && f x y)
at_test_step f x y p true e =
    let k = and_parts (int_eq p.x x) (int_eq p.y y) e in
    and_comm (f p.x p.y) true ∙ (ap (λ a. f a p.y) (eq_of p.x x k.0) ∙ ap (λ b. f x b) (eq_of p.y y k.1))
at_test_step f x y p false e = and_comm (f p.x p.y) false

-- a test on the pixel at a place is the test on that place
at_test : (f : ℤ → ℤ → Bool) (x y : ℤ) (p : Pixel) → (f p.x p.y && is_at x y p) ≡ (is_at x y p && f x y)
at_test f x y p = at_test_step f x y p (is_at x y p) refl

-- a pixel of what a filter keeps
filter_at : (f : ℤ → ℤ → Bool) (s : List Pixel) (x y : ℤ) → contains_pixel (filter (λ p. f p.x p.y) s) x y ≡ (contains_pixel s x y && f x y)
unfolding contains_pixel
filter_at f s x y =
    any_filter (is_at x y) (λ p. f p.x p.y) s
    ∙ (any_agree (λ p. f p.x p.y && is_at x y p) (λ p. is_at x y p && f x y) (at_test f x y) s ∙ any_and (is_at x y) (f x y) s)

-- the pixels of an intersection
pub contains_intersection : (s t : List Pixel) (x y : ℤ) → contains_pixel (intersection s t) x y ≡ (contains_pixel s x y && contains_pixel t x y)
unfolding intersection
contains_intersection s t x y = filter_at (λ a b. contains_pixel t a b) s x y

-- the pixels of a difference
pub contains_difference : (s t : List Pixel) (x y : ℤ) → contains_pixel (difference s t) x y ≡ (contains_pixel s x y && not (contains_pixel t x y))
unfolding difference
contains_difference s t x y = filter_at (λ a b. not (contains_pixel t a b)) s x y

-- the pixels of a symmetric difference
pub contains_symmetric : (s t : List Pixel) (x y : ℤ)
    → contains_pixel (symmetric_difference s t) x y
    ≡ ((contains_pixel s x y && not (contains_pixel t x y)) || (contains_pixel t x y && not (contains_pixel s x y)))
unfolding symmetric_difference
contains_symmetric s t x y =
    contains_union (difference s t) (difference t s) x y
    ∙ (ap (λ w. w || contains_pixel (difference t s) x y) (contains_difference s t x y)
    ∙ ap (λ w. (contains_pixel s x y && not (contains_pixel t x y)) || w) (contains_difference t s x y))

-- the pixels of one row of a rectangle
row_pixels : (r : Rectangle) (x y w : ℤ) → list_any (is_at x y) (map (λ z. record { x = z; y = w }) (span r.min_x r.max_x)) ≡ (int_eq w y && within r.min_x x r.max_x)
row_pixels r x y w =
    any_map (is_at x y) (λ z. record { x = z; y = w }) (span r.min_x r.max_x)
    ∙ (any_and (λ z. int_eq z x) (int_eq w y) (span r.min_x r.max_x)
    ∙ (ap (λ v. v && int_eq w y) (any_span r.min_x r.max_x x) ∙ and_comm (within r.min_x x r.max_x) (int_eq w y)))

-- the pixels of one rectangle are those that it has
rectangle_has : (x y : ℤ) (r : Rectangle) → list_any (is_at x y) (rectangle_pixels r) ≡ has_pixel r x y
rectangle_has x y r =
    any_flat_map (is_at x y) (λ w. map (λ z. record { x = z; y = w }) (span r.min_x r.max_x)) (span r.min_y r.max_y)
    ∙ (any_agree _ (λ w. int_eq w y && within r.min_x x r.max_x) (row_pixels r x y) (span r.min_y r.max_y)
    ∙ (any_and (λ w. int_eq w y) (within r.min_x x r.max_x) (span r.min_y r.max_y)
    ∙ (ap (λ v. v && within r.min_x x r.max_x) (any_span r.min_y r.max_y y) ∙ and_comm (within r.min_y y r.max_y) (within r.min_x x r.max_x))))

-- a pixel is in the set of a list exactly where some rectangle of the list has it
pub contains_pixels_of : (rects : List Rectangle) (x y : ℤ) → contains_pixel (pixels_of rects) x y ≡ covers rects x y
unfolding contains_pixel pixels_of covers
contains_pixels_of rects x y =
    any_in_order precedes reading_total (is_at x y) (flat_map rectangle_pixels rects)
    ∙ (any_flat_map (is_at x y) rectangle_pixels rects
    ∙ any_agree (λ r. list_any (is_at x y) (rectangle_pixels r)) (λ r. has_pixel r x y) (rectangle_has x y) rects)
