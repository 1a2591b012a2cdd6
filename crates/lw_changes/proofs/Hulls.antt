-- What a list with one more rectangle covers.
use Rattle.std.proofs.Common.{◌≡◌, Bool, true, false, ◌||◌, ℕ, ◌+◌, ◌<◌, nat_lt, get_or, take, List, [], ◌∷◌, ◌++◌, length}
use Rattle.std.proofs.Common.{ℤ, ◌≤ℤ◌, int_le, Option, refl, sym, ap, ◌∙◌, arith}
use Rattle.std.specs.Prelude.{if◌then◌else◌}
use Rattle.std.specs.Int.{int_max, int_min}
use Rattle.std.specs.List.{list_any}
use Rattle.std.specs.Option.{SomeIff}
use Rattle.std.proofs.lemmas.Bool.{and_from, and_parts, or_parts, or_from, both_ways, false_from_ne_true}
use Rattle.std.proofs.lemmas.Int.{ints, clamps}
use Rattle.std.proofs.lemmas.List.{take_more}
use Rattle.lw_region.specs.Rectangle.{Rectangle, IsOrdered, within, has_pixel}
use Rattle.lw_region.specs.Bands.{covers}
use Rattle.lw_region.proofs.Canonical.{covers_nil, covers_cons}
use Rattle.lw_region.proofs.Columns.{le_true}
use Rattle.lw_region.proofs.Numbers.{le_of}
use Rattle.lw_region.proofs.Within.{within_low, within_high, within_true}
use Rattle.lw_changes.specs.Changed.{lie_in, is_inside, hull, hull_of}
use Rattle.lw_changes.specs.Laws.{GrownListsCover}
use Rattle.lw_changes.proofs.Places.{covers_neither}

-- what `Rect::new` gives has the hull's bounds
pub hull_bounds : (o : Option Rectangle) (r q : Rectangle) (a b c e : ℤ) → a ≡ int_min r.min_x q.min_x
    → b ≡ int_min r.min_y q.min_y → c ≡ int_max r.max_x q.max_x → e ≡ int_max r.max_y q.max_y
    → SomeIff o (IsOrdered (record { min_x = a; min_y = b; max_x = c; max_y = e }))
    (record { min_x = a; min_y = b; max_x = c; max_y = e })
    → SomeIff o (IsOrdered (hull r q)) (hull r q)
hull_bounds o r q a b c e left upper right lower s = rw (left, upper, right, lower) at s

pub hull_ordered : (r q : Rectangle) → IsOrdered r → IsOrdered (hull r q)
hull_ordered r q ok = record {
  columns = axis r.min_x r.max_x q.min_x q.max_x ok.columns;
  rows = axis r.min_y r.max_y q.min_y q.max_y ok.rows;
}
  where
    axis : (a b c e : ℤ) → a ≤ℤ b → int_min a c ≤ℤ int_max b e
    axis a b c e low = omega (arith, ints, clamps)

-- a rectangle that lies in another has no other places
axis_in : (least greatest low high z : ℤ) → lie_in least greatest low high ≡ true → within least z greatest ≡ true
    → within low z high ≡ true
unfolding lie_in
axis_in least greatest low high z lies has =
    let sides = and_parts (int_le low least) (int_le greatest high) lies in
    within_true low z high
    (through low least z (le_of low least sides.0) (within_low least z greatest has))
    (through z greatest high (within_high least z greatest has) (le_of greatest high sides.1))
  where
    through : (a b c : ℤ) → a ≤ℤ b → b ≤ℤ c → a ≤ℤ c
    through a b c low high = omega (arith, ints)

inside_has : (r q : Rectangle) (x y : ℤ) → is_inside r q ≡ true → has_pixel q x y ≡ false → has_pixel r x y ≡ false
inside_has r q x y inside off = false_from_ne_true (has_pixel r x y) (λ has. both_ways (has_pixel q x y) off (too has))
  where
    too : has_pixel r x y ≡ true → has_pixel q x y ≡ true
    too has =
        let parts = and_parts _ _ has in
        let sides = and_parts _ _ inside in
        and_from _ _ (axis_in r.min_x r.max_x q.min_x q.max_x x sides.0 parts.0)
        (axis_in r.min_y r.max_y q.min_y q.max_y y sides.1 parts.1)

-- a place that a hull leaves out is in neither
hull_left : (r q : Rectangle) (x y : ℤ) → has_pixel (hull r q) x y ≡ false → has_pixel r x y ≡ false
unfolding lie_in
hull_left r q x y off =
    inside_has r (hull r q) x y
    (and_from _ _ (axis r.min_x r.max_x q.min_x q.max_x) (axis r.min_y r.max_y q.min_y q.max_y)) off
  where
    axis : (a b c e : ℤ) → lie_in a b (int_min a c) (int_max b e) ≡ true
    axis a b c e =
        and_from _ _ (le_true (int_min a c) a (omega (arith, ints, clamps)))
        (le_true b (int_max b e) (omega (arith, ints, clamps)))

hull_right : (r q : Rectangle) (x y : ℤ) → has_pixel (hull r q) x y ≡ false → has_pixel q x y ≡ false
unfolding lie_in
hull_right r q x y off =
    inside_has q (hull r q) x y
    (and_from _ _ (axis r.min_x r.max_x q.min_x q.max_x) (axis r.min_y r.max_y q.min_y q.max_y)) off
  where
    axis : (a b c e : ℤ) → lie_in c e (int_min a c) (int_max b e) ≡ true
    axis a b c e =
        and_from _ _ (le_true (int_min a c) c (omega (arith, ints, clamps)))
        (le_true e (int_max b e) (omega (arith, ints, clamps)))

hull_of_all : (rects : List Rectangle) (r : Rectangle) (x y : ℤ) → has_pixel (hull_of rects r) x y ≡ false
    → (covers rects x y ≡ false) × (has_pixel r x y ≡ false)
hull_of_all [] r x y off = (covers_nil x y, off)
hull_of_all (q ∷ rects) r x y off =
    let rest = hull_of_all rects (hull r q) x y off in (
      covers_cons q rects x y ∙ or_from (has_pixel q x y) (covers rects x y) (hull_right r q x y rest.1) rest.0,
      hull_left r q x y rest.1,
    )

-- a rectangle that lies in one of a list has only places that the list covers
any_inside : (rects : List Rectangle) (r : Rectangle) (x y : ℤ) → list_any (is_inside r) rects ≡ true → covers rects x y ≡ false
    → has_pixel r x y ≡ false
any_inside [] r x y inside off = absurd (cc)
any_inside (q ∷ rects) r x y inside off =
    let parts = or_parts (has_pixel q x y) (covers rects x y) (sym (covers_cons q rects x y) ∙ off) in
    go (is_inside r q) refl inside parts.0 (λ some. any_inside rects r x y some parts.1)
  where
    go : (b : Bool) → is_inside r q ≡ b → (b || list_any (is_inside r) rects) ≡ true → has_pixel q x y ≡ false
        → (list_any (is_inside r) rects ≡ true → has_pixel r x y ≡ false) → has_pixel r x y ≡ false
    go true here some first rest = inside_has r q x y here first
    go false here some first rest = rest some

single : (r : Rectangle) (x y : ℤ) → covers (r ∷ []) x y ≡ false → has_pixel r x y ≡ false
single r x y off = (or_parts (has_pixel r x y) (covers [] x y) (sym (covers_cons r [] x y) ∙ off)).0

-- What a list with one more rectangle leaves out, neither the list covers nor the rectangle has.
pub with_rect_covers : GrownListsCover
with_rect_covers rects r x y off = by_inside (list_any (is_inside r) rects) refl off
  where
    by_room : (b : Bool) → covers (if b then rects ++ (r ∷ []) else hull_of rects r ∷ []) x y ≡ false
        → (covers rects x y ≡ false) × (has_pixel r x y ≡ false)
    by_room true off =
        let parts = covers_neither rects (r ∷ []) x y off in
        (parts.0, single r x y parts.1)
    by_room false off = hull_of_all rects r x y (single (hull_of rects r) x y off)

    by_inside : (b : Bool) → list_any (is_inside r) rects ≡ b
        → covers (if b then rects else if nat_lt (length rects) 16 then rects ++ (r ∷ []) else hull_of rects r ∷ []) x y ≡ false
        → (covers rects x y ≡ false) × (has_pixel r x y ≡ false)
    by_inside true here off = (off, any_inside rects r x y here off)
    by_inside false here off = by_room (nat_lt (length rects) 16) off

-- a hull takes in one more rectangle after the others
hull_of_end : (rects : List Rectangle) (r q : Rectangle) → hull_of (rects ++ (q ∷ [])) r ≡ hull (hull_of rects r) q
hull_of_end [] r q = refl
hull_of_end (p ∷ rects) r q = hull_of_end rects (hull r p) q

pub hull_more : (rects : List Rectangle) (i : ℕ) (q r all : Rectangle) → i < length rects → q ≡ get_or rects i q
    → all ≡ hull_of (take i rects) r → hull all q ≡ hull_of (take (i + 1) rects) r
hull_more rects i q r all low is so_far =
    ap (λ a. hull a q) so_far
    ∙ (sym (hull_of_end (take i rects) r q)
    ∙ ap (λ list. hull_of list r) (ap (λ p. take i rects ++ (p ∷ [])) is ∙ sym (take_more rects i q low)))
