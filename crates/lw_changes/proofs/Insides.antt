-- A list with one more rectangle lies where both lie.
use Rattle.std.proofs.Common.{◌≡◌, Bool, true, false, nat_lt, List, [], ◌∷◌, ◌++◌, length, ℤ, ◌≤ℤ◌, int_le, refl, arith}
use Rattle.std.specs.Prelude.{if◌then◌else◌}
use Rattle.std.specs.Int.{int_max, int_min}
use Rattle.std.specs.List.{list_any}
use Rattle.std.proofs.lemmas.Bool.{and_from, and_parts}
use Rattle.std.proofs.lemmas.Int.{ints, clamps}
use Rattle.lw_region.specs.Rectangle.{Rectangle, IsOrdered, within, has_pixel}
use Rattle.lw_region.proofs.Columns.{le_true}
use Rattle.lw_region.proofs.Numbers.{le_of}
use Rattle.lw_region.proofs.Within.{within_low, within_high, within_true}
use Rattle.lw_changes.specs.Changed.{lie_in, is_inside, has_all, hull, hull_of}
use Rattle.lw_changes.specs.Laws.{GrownListsStay}

hull_inside : (r q frame : Rectangle) → is_inside r frame ≡ true → is_inside q frame ≡ true → is_inside (hull r q) frame ≡ true
unfolding lie_in
hull_inside r q frame first second =
    let a = and_parts _ _ first in
    let b = and_parts _ _ second in
    and_from _ _ (axis r.min_x r.max_x q.min_x q.max_x frame.min_x frame.max_x a.0 b.0)
    (axis r.min_y r.max_y q.min_y q.max_y frame.min_y frame.max_y a.1 b.1)
  where
    axis : (a b c e low high : ℤ) → lie_in a b low high ≡ true → lie_in c e low high ≡ true
        → lie_in (int_min a c) (int_max b e) low high ≡ true
    axis a b c e low high left right =
        let p = and_parts (int_le low a) (int_le b high) left in
        let q = and_parts (int_le low c) (int_le e high) right in
        let from : low ≤ℤ a = le_of low a p.0 in
        let too : low ≤ℤ c = le_of low c q.0 in
        let to : b ≤ℤ high = le_of b high p.1 in
        let end : e ≤ℤ high = le_of e high q.1 in
        and_from _ _ (le_true low (int_min a c) (omega (arith, ints, clamps)))
        (le_true (int_max b e) high (omega (arith, ints, clamps)))

hull_of_inside : (rects : List Rectangle) (r frame : Rectangle) → has_all frame rects ≡ true → is_inside r frame ≡ true
    → is_inside (hull_of rects r) frame ≡ true
hull_of_inside [] r frame all here = here
hull_of_inside (q ∷ rects) r frame all here =
    let parts = and_parts (is_inside q frame) (has_all frame rects) all in
    hull_of_inside rects (hull r q) frame parts.1 (hull_inside r q frame here parts.0)

more_inside : (rects : List Rectangle) (r frame : Rectangle) → has_all frame rects ≡ true → is_inside r frame ≡ true
    → has_all frame (rects ++ (r ∷ [])) ≡ true
more_inside [] r frame all here = and_from (is_inside r frame) true here refl
more_inside (q ∷ rects) r frame all here =
    let parts = and_parts (is_inside q frame) (has_all frame rects) all in
    and_from (is_inside q frame) (has_all frame (rects ++ (r ∷ []))) parts.0 (more_inside rects r frame parts.1 here)

pub with_rect_stays : GrownListsStay
with_rect_stays rects r frame all here = by_inside (list_any (is_inside r) rects)
  where
    by_room : (b : Bool) → has_all frame (if b then rects ++ (r ∷ []) else hull_of rects r ∷ []) ≡ true
    by_room true = more_inside rects r frame all here
    by_room false = and_from (is_inside (hull_of rects r) frame) true (hull_of_inside rects r frame all here) refl

    by_inside : (b : Bool)
        → has_all frame (if b then rects else if nat_lt (length rects) 16 then rects ++ (r ∷ []) else hull_of rects r ∷ []) ≡ true
    by_inside true = all
    by_inside false = by_room (nat_lt (length rects) 16)

-- a rectangle lies in another that has each of its pixels
pub pixels_inside : (r frame : Rectangle) → IsOrdered r → ((x y : ℤ) → has_pixel r x y ≡ true → has_pixel frame x y ≡ true)
    → is_inside r frame ≡ true
unfolding lie_in
pixels_inside r frame ok has =
    let first = and_parts _ _ (has r.min_x r.min_y
    (and_from _ _ (within_true r.min_x r.min_x r.max_x (itself r.min_x) ok.columns)
    (within_true r.min_y r.min_y r.max_y (itself r.min_y) ok.rows))) in
    let last = and_parts _ _ (has r.max_x r.max_y
    (and_from _ _ (within_true r.min_x r.max_x r.max_x ok.columns (itself r.max_x))
    (within_true r.min_y r.max_y r.max_y ok.rows (itself r.max_y)))) in
    and_from _ _ (axis r.min_x r.max_x frame.min_x frame.max_x first.0 last.0)
    (axis r.min_y r.max_y frame.min_y frame.max_y first.1 last.1)
  where
    itself : (z : ℤ) → z ≤ℤ z
    itself z = omega (arith, ints)

    axis : (a b low high : ℤ) → within low a high ≡ true → within low b high ≡ true → lie_in a b low high ≡ true
    axis a b low high from to =
        and_from _ _ (le_true low a (within_low low a high from)) (le_true b high (within_high low b high to))
