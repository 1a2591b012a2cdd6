-- No pixel outside the box of a polygon's points is inside.
use Rattle.std.proofs.Common.{◌≡◌, ℕ, zero, suc, ◌+◌, ◌*◌, ◌<◌, ◌≤◌, Bool, true, false, cond, not, ◌&&◌, ◌||◌, List, [], ◌∷◌, ◌++◌, ℤ, pos, negsuc, ◌+ℤ◌, ◌-ℤ◌, ◌*ℤ◌, ◌<ℤ◌, ◌≤ℤ◌, refl, ap, sym, ◌∙◌, arith, mul-le-mul}
use Rattle.std.specs.Prelude.{int_lt, int_le}
use Rattle.std.specs.Int.{int_min, int_max}
use Rattle.std.specs.Ordering.{int_eq}
use Rattle.std.specs.List.{All, list_any, filter}
use Rattle.std.proofs.lemmas.Int.{ints, clamps, by_lt_z}
use Rattle.std.proofs.lemmas.Bool.{false≢true, and_left, and_right, and_parts, and_from, false_from_ne_true}
use Rattle.std.proofs.lemmas.List.Elements.{All-nil, All-cons, All-weaker}
use Rattle.std.proofs.Math.Bool.{and_comm}
use Rattle.lw_region.specs.Rectangle.{Rectangle, within, has_pixel}
use Rattle.lw_region.specs.Pixels.{Pixel, is_at, contains_pixel, pixels_of}
use Rattle.lw_region.specs.Regions.{rectangle_set}
use Rattle.lw_region.proofs.Within.{within_true, within_below, within_above}
use Rattle.lw_region.proofs.Numbers.{eq_of, of_lt}
use Rattle.lw_region.proofs.Columns.{le_true, le_false, le_lt_false}
use Rattle.lw_region.proofs.Edges.{differ}
use Rattle.lw_region.proofs.Lists.{any_agree, any_filter, any_and}
use Rattle.lw_region.proofs.Reading.{contains_pixels_of}
use Rattle.lw_region.proofs.SetOps.{covers_one}
use Rattle.lw_area.specs.declared.point.Point.{Point}
use Rattle.lw_area.specs.Polygons.{Side, way, sides, passes, is_left, holds_of_odd, is_inside, box_of}
use Rattle.lw_area.specs.Patterns.{pattern_has}
use Rattle.lw_area.specs.Areas.{is_in_area, area_set, AreaHasItsPixels}
use Rattle.lw_area.proofs.Odd.{odd_nil, odd_cons}
use Rattle.lw_area.proofs.Passing.{signed}
use Rattle.lw_area.proofs.Slabs.{OfEnds, ends_sides, no_row}

-- the ends are on both sides of a row
abbrev is_across : ℤ → Side → Bool
is_across y s = differ (int_le s.from.y y) (int_le s.to.y y)

differ_end : (p : Bool) → differ p false ≡ p
differ_end true = refl
differ_end false = refl

differ_itself : (p : Bool) → differ p p ≡ false
differ_itself true = refl
differ_itself false = refl

differ_joined : (p q r : Bool) → differ (differ p q) (differ q r) ≡ differ p r
differ_joined true true true = refl
differ_joined true true false = refl
differ_joined true false true = refl
differ_joined true false false = refl
differ_joined false true true = refl
differ_joined false true false = refl
differ_joined false false true = refl
differ_joined false false false = refl

-- a way goes across a row an odd number of times where its ends are on both sides
way_across : (y : ℤ) (p : Point) (qs : List Point) (r : Point) → holds_of_odd (is_across y) (way p (qs ++ r ∷ [])) ≡ differ (int_le p.y y) (int_le r.y y)
way_across y p [] r =
    odd_cons (is_across y) (record { from = p; to = r }) []
    ∙ (ap (λ w. differ (differ (int_le p.y y) (int_le r.y y)) w) (odd_nil (is_across y)) ∙ differ_end (differ (int_le p.y y) (int_le r.y y)))
way_across y p (q ∷ qs) r =
    odd_cons (is_across y) (record { from = p; to = q }) (way q (qs ++ r ∷ []))
    ∙ (ap (λ w. differ (differ (int_le p.y y) (int_le q.y y)) w) (way_across y q qs r) ∙ differ_joined (int_le p.y y) (int_le q.y y) (int_le r.y y))

closed_across : (y : ℤ) (points : List Point) → holds_of_odd (is_across y) (sides points) ≡ false
closed_across y [] = odd_nil (is_across y)
closed_across y (p ∷ ps) = way_across y p ps p ∙ differ_itself (int_le p.y y)

-- the products of the rule right of both ends, and left of both
right_products : (t x h d : ℤ) → pos 0 ≤ℤ t → t ≤ℤ h → pos 0 ≤ℤ x → d ≤ℤ x → (t *ℤ d) ≤ℤ (x *ℤ h)
right_products (pos t) (pos x) (pos h) (pos d) a b c e =
    let l : t ≤ h = omega (arith, ints) in
    let m : d ≤ x = omega (arith, ints) in
    let p : t * d ≤ h * x = mul-le-mul l m in omega (arith, signed)
right_products (pos t) (pos x) (pos h) (negsuc d) a b c e = omega (arith, signed)
right_products (pos t) (pos x) (negsuc h) d a b c e = absurd (omega (arith, ints))
right_products (pos t) (negsuc x) h d a b c e = absurd (omega (arith, ints))
right_products (negsuc t) x h d a b c e = absurd (omega (arith, ints))

left_products : (t x h d : ℤ) → pos 0 ≤ℤ t → t <ℤ h → x <ℤ pos 0 → x <ℤ d → (x *ℤ h) <ℤ (t *ℤ d)
left_products (pos t) (negsuc x) (pos h) (pos d) a b c e = omega (arith, signed)
left_products (pos t) (negsuc x) (pos h) (negsuc d) a b c e =
    let l : t ≤ h = omega (arith, ints) in
    let m : suc d ≤ x = omega (arith, ints) in
    let p : suc d * t ≤ x * h = mul-le-mul m l in omega (arith, signed)
left_products (pos t) (negsuc x) (negsuc h) d a b c e = absurd (omega (arith, ints))
left_products (pos t) (pos x) h d a b c e = absurd (omega (arith, ints))
left_products (negsuc t) x h d a b c e = absurd (omega (arith, ints))

-- right of both ends an edge is left of the pixel where it goes across the row
right_down : (a b : Point) (x y : ℤ) → a.y <ℤ b.y → a.x ≤ℤ x → b.x ≤ℤ x → passes a b x y ≡ differ (int_le a.y y) (int_le b.y y)
unfolding passes
right_down a b x y h k l =
    by_lt_z y a.y
    (λ m. rw (le_false a.y y m, le_false b.y y (omega (arith, ints))) refl)
    (λ m. by_lt_z y b.y
    (λ n. let p : int_le ((y -ℤ a.y) *ℤ (b.x -ℤ a.x)) ((x -ℤ a.x) *ℤ (b.y -ℤ a.y)) ≡ true =
    le_true _ _ (right_products (y -ℤ a.y) (x -ℤ a.x) (b.y -ℤ a.y) (b.x -ℤ a.x) (omega (arith, ints)) (omega (arith, ints)) (omega (arith, ints)) (omega (arith, ints))) in
    rw (le_true a.y y m, of_lt y b.y n, le_false b.y y n, p) refl)
    (λ n. rw (le_true a.y y m, le_lt_false y b.y n, le_true b.y y n) refl))

-- left of both ends it isn't
left_down : (a b : Point) (x y : ℤ) → x <ℤ a.x → x <ℤ b.x → passes a b x y ≡ false
unfolding passes
left_down a b x y h k =
    by_lt_z y a.y
    (λ m. rw (le_false a.y y m) refl)
    (λ m. by_lt_z y b.y
    (λ n. let p : int_le ((y -ℤ a.y) *ℤ (b.x -ℤ a.x)) ((x -ℤ a.x) *ℤ (b.y -ℤ a.y)) ≡ false =
    le_false _ _ (left_products (y -ℤ a.y) (x -ℤ a.x) (b.y -ℤ a.y) (b.x -ℤ a.x) (omega (arith, ints)) (omega (arith, ints)) (omega (arith, ints)) (omega (arith, ints))) in
    rw (le_true a.y y m, of_lt y b.y n, p) refl)
    (λ n. rw (le_true a.y y m, le_lt_false y b.y n) refl))

differ_swapped : (p q : Bool) → differ p q ≡ differ q p
differ_swapped true true = refl
differ_swapped true false = refl
differ_swapped false true = refl
differ_swapped false false = refl

right_side : (x y : ℤ) (s : Side) → s.from.x ≤ℤ x → s.to.x ≤ℤ x → is_left x y s ≡ is_across y s
right_side x y s h k =
    by_lt_z s.from.y s.to.y
    (λ m. rw (of_lt s.from.y s.to.y m) (right_down s.from s.to x y m h k))
    (λ m. by_lt_z s.to.y s.from.y
    (λ n. rw (le_lt_false s.from.y s.to.y m, of_lt s.to.y s.from.y n) (right_down s.to s.from x y n k h ∙ differ_swapped (int_le s.to.y y) (int_le s.from.y y)))
    (λ n. let e : s.from.y ≡ s.to.y = omega (arith, ints) in
    rw (le_lt_false s.from.y s.to.y m, le_lt_false s.to.y s.from.y n) (sym (ap (λ w. differ (int_le w y) (int_le s.to.y y)) e ∙ differ_itself (int_le s.to.y y)))))

none_cond : (s t : Bool) (p q : Bool) → p ≡ false → q ≡ false → cond s p (cond t q false) ≡ false
none_cond true t p q e f = e
none_cond false true p q e f = f
none_cond false false p q e f = refl

left_side : (x y : ℤ) (s : Side) → x <ℤ s.from.x → x <ℤ s.to.x → is_left x y s ≡ false
left_side x y s h k = none_cond _ _ _ _ (left_down s.from s.to x y h k) (left_down s.to s.from x y k h)

above_side : (x y : ℤ) (s : Side) → y <ℤ s.from.y → y <ℤ s.to.y → is_left x y s ≡ false
above_side x y s h k =
    none_cond _ _ _ _ (no_row s.from s.to x y (and_left _ _ (le_false s.from.y y h))) (no_row s.to s.from x y (and_left _ _ (le_false s.to.y y k)))

below_side : (x y : ℤ) (s : Side) → s.from.y ≤ℤ y → s.to.y ≤ℤ y → is_left x y s ≡ false
below_side x y s h k =
    none_cond _ _ _ _ (no_row s.from s.to x y (and_right (int_le s.from.y y) _ (le_lt_false y s.to.y k)))
    (no_row s.to s.from x y (and_right (int_le s.to.y y) _ (le_lt_false y s.from.y h)))

-- tests that agree on edges with such ends
odd_agree : (f g : Side → Bool) (P : Point → Type 0) → ((s : Side) → P s.from → P s.to → f s ≡ g s) → (ss : List Side) → OfEnds P ss → holds_of_odd f ss ≡ holds_of_odd g ss
odd_agree f g P h [] e = odd_nil f ∙ sym (odd_nil g)
odd_agree f g P h (s ∷ ss) e =
    odd_cons f s ss ∙ (ap (λ w. differ w (holds_of_odd f ss)) (h s e.0.0 e.0.1) ∙ (ap (λ w. differ (g s) w) (odd_agree f g P h ss e.1) ∙ sym (odd_cons g s ss)))

odd_none : (ss : List Side) → holds_of_odd (λ s. false) ss ≡ false
odd_none [] = odd_nil (λ s. false)
odd_none (s ∷ ss) = odd_cons (λ s. false) s ss ∙ ap (λ w. differ false w) (odd_none ss)

-- right of all points, left of them, above and below them nothing is inside
pub right_of_all : (x y : ℤ) (points : List Point) → All (λ p. p.x ≤ℤ x) points → is_inside points x y ≡ false
right_of_all x y points h =
    odd_agree (is_left x y) (is_across y) (λ p. p.x ≤ℤ x) (right_side x y) (sides points) (ends_sides (λ p. p.x ≤ℤ x) points h) ∙ closed_across y points

left_of_all : (x y : ℤ) (points : List Point) → All (λ p. x <ℤ p.x) points → is_inside points x y ≡ false
left_of_all x y points h =
    odd_agree (is_left x y) (λ s. false) (λ p. x <ℤ p.x) (left_side x y) (sides points) (ends_sides (λ p. x <ℤ p.x) points h) ∙ odd_none (sides points)

pub above_all : (x y : ℤ) (points : List Point) → All (λ p. y <ℤ p.y) points → is_inside points x y ≡ false
above_all x y points h =
    odd_agree (is_left x y) (λ s. false) (λ p. y <ℤ p.y) (above_side x y) (sides points) (ends_sides (λ p. y <ℤ p.y) points h) ∙ odd_none (sides points)

pub below_all : (x y : ℤ) (points : List Point) → All (λ p. p.y ≤ℤ y) points → is_inside points x y ≡ false
below_all x y points h =
    odd_agree (is_left x y) (λ s. false) (λ p. p.y ≤ℤ y) (below_side x y) (sides points) (ends_sides (λ p. p.y ≤ℤ y) points h) ∙ odd_none (sides points)

-- the box has each of the points
record InBox (b : Rectangle) (p : Point) : Type 0 where
  left : b.min_x ≤ℤ p.x
  top : b.min_y ≤ℤ p.y
  right : p.x ≤ℤ b.max_x
  bottom : p.y ≤ℤ b.max_y

in_box : (p : Point) (ps : List Point) → All (InBox (box_of p ps)) (p ∷ ps)
in_box p [] =
    All-cons (InBox (box_of p [])) p [] (record { left = omega (arith, ints); top = omega (arith, ints); right = omega (arith, ints); bottom = omega (arith, ints) }) (All-nil _)
in_box p (q ∷ qs) =
    All-cons (InBox (box_of p (q ∷ qs))) p (q ∷ qs)
    (record { left = omega (arith, ints, clamps); top = omega (arith, ints, clamps); right = omega (arith, ints, clamps); bottom = omega (arith, ints, clamps) })
    (All-weaker (InBox (box_of q qs)) (InBox (box_of p (q ∷ qs))) (λ r s.
    let a = s.left in let b = s.top in let c = s.right in let d = s.bottom in
    record { left = omega (arith, ints, clamps); top = omega (arith, ints, clamps); right = omega (arith, ints, clamps); bottom = omega (arith, ints, clamps) }) (q ∷ qs) (in_box q qs))

none_outside : (p : Point) (ps : List Point) (x y : ℤ) → has_pixel (box_of p ps) x y ≡ false → is_inside (p ∷ ps) x y ≡ false
none_outside p ps x y e =
    let b = box_of p ps in
    let all = in_box p ps in
    by_lt_z x b.min_x
    (λ h. left_of_all x y (p ∷ ps) (All-weaker (InBox b) (λ q. x <ℤ q.x) (λ q s. let l = s.left in omega (arith, ints)) (p ∷ ps) all))
    (λ h. by_lt_z b.max_x x
    (λ k. right_of_all x y (p ∷ ps) (All-weaker (InBox b) (λ q. q.x ≤ℤ x) (λ q s. let l = s.right in omega (arith, ints)) (p ∷ ps) all))
    (λ k. by_lt_z y b.min_y
    (λ m. above_all x y (p ∷ ps) (All-weaker (InBox b) (λ q. y <ℤ q.y) (λ q s. let l = s.top in omega (arith, ints)) (p ∷ ps) all))
    (λ m. by_lt_z b.max_y y
    (λ n. below_all x y (p ∷ ps) (All-weaker (InBox b) (λ q. q.y ≤ℤ y) (λ q s. let l = s.bottom in omega (arith, ints)) (p ∷ ps) all))
    (λ n. absurd (false≢true (sym e ∙ and_from _ _ (within_true b.min_x x b.max_x h k) (within_true b.min_y y b.max_y m n)))))))

-- what a test of a pixel says of the one that is looked for
at_step : (f : ℤ → ℤ → Bool) (x y : ℤ) (p : Pixel) (t : Bool) → is_at x y p ≡ t → (f p.x p.y && t) ≡ (t && f x y)
at_step f x y p true e =
    let k = and_parts (int_eq p.x x) (int_eq p.y y) e in
    and_comm (f p.x p.y) true ∙ (ap (λ a. f a p.y) (eq_of p.x x k.0) ∙ ap (λ b. f x b) (eq_of p.y y k.1))
at_step f x y p false e = and_comm (f p.x p.y) false

filtered : (f : ℤ → ℤ → Bool) (s : List Pixel) (x y : ℤ) → contains_pixel (filter (λ p. f p.x p.y) s) x y ≡ (contains_pixel s x y && f x y)
unfolding contains_pixel
filtered f s x y =
    any_filter (is_at x y) (λ p. f p.x p.y) s ∙ (any_agree _ (λ p. is_at x y p && f x y) (λ p. at_step f x y p (is_at x y p) refl) s ∙ any_and (is_at x y) (f x y) s)

settled : (t p q : Bool) → (t ≡ false → p ≡ false) → (t && (p && q)) ≡ (p && q)
settled true p q h = refl
settled false p q h = sym (ap (λ w. w && q) (h refl))

nothing_in : (words : List ℕ) (x y : ℤ) → contains_pixel (area_set [] words) x y ≡ is_in_area [] words x y
unfolding area_set contains_pixel
nothing_in words x y = sym (ap (λ w. w && pattern_has words x y) (odd_nil (is_left x y)))

area_by_box : (p : Point) (ps : List Point) (words : List ℕ) (x y : ℤ)
    → contains_pixel (area_set (p ∷ ps) words) x y ≡ (contains_pixel (rectangle_set (box_of p ps)) x y && is_in_area (p ∷ ps) words x y)
unfolding area_set
area_by_box p ps words x y = filtered (is_in_area (p ∷ ps) words) (rectangle_set (box_of p ps)) x y

pub area_pixels : AreaHasItsPixels
area_pixels [] words x y = nothing_in words x y
area_pixels (p ∷ ps) words x y =
    area_by_box p ps words x y
    ∙ (ap (λ w. w && is_in_area (p ∷ ps) words x y) (contains_pixels_of (box_of p ps ∷ []) x y ∙ covers_one (box_of p ps) x y)
    ∙ settled (has_pixel (box_of p ps) x y) (is_inside (p ∷ ps) x y) (pattern_has words x y) (none_outside p ps x y))
