-- The edges that cross a row, in all rows of a slab.
use Rattle.std.proofs.Common.{◌≡◌, ℕ, ◌+◌, ◌<◌, ◌≤◌, Bool, true, false, cond, not, ◌&&◌, ◌||◌, List, [], ◌∷◌, ◌++◌, length, get_or, take, drop, ℤ, pos, negsuc, ◌<ℤ◌, ◌≤ℤ◌, refl, ap, sym, ◌∙◌, arith}
use Rattle.std.specs.Prelude.{int_lt, int_le}
use Rattle.std.specs.List.{All, list_all, flat_map}
use Rattle.std.proofs.lemmas.Int.{ints, by_lt_z}
use Rattle.std.proofs.lemmas.Bool.{false≢true, and_parts, and_from, and_left, and_right}
use Rattle.std.proofs.lemmas.List.{append-nil, drop_all}
use Rattle.std.proofs.lemmas.List.Elements.{All-nil, All-cons, All-head, All-tail, All-append}
use Rattle.lw_region.specs.Rectangle.{within}
use Rattle.lw_region.proofs.Within.{within_low, within_high}
use Rattle.lw_region.proofs.Numbers.{lt_of, le_of, of_lt}
use Rattle.lw_region.proofs.Columns.{le_true, le_false, le_lt_false}
use Rattle.lw_region.proofs.Edges.{differ}
use Rattle.lw_area.specs.declared.point.Point.{Point}
use Rattle.lw_area.specs.declared.slab.Edge.{Edge}
use Rattle.lw_area.specs.Polygons.{is_in_range, Side, way, sides, passes, is_left, holds_of_odd}
use Rattle.lw_area.specs.Rows.{IsInRange, crossing_down, crossing, Crosses, is_passed}
use Rattle.lw_area.proofs.Odd.{odd_nil, odd_cons, odd_append, differ_none}
use Rattle.lw_area.proofs.Passing.{one_test}

-- a test on one side of each point's row, in two rows
abbrev pub AgreesAt : ℤ → ℤ → Point → Type 0
AgreesAt row r p = (int_le p.y row ≡ int_le p.y r) × (int_lt row p.y ≡ int_lt r p.y)

-- no point lies between two rows
pub agrees : (top row r : ℤ) (p : Point) → top ≤ℤ r → r ≤ℤ row → (p.y ≤ℤ row → p.y ≤ℤ top) → AgreesAt row r p
agrees top row r p h k f = (
  one_test _ _ (λ e. let l = f (le_of p.y row e) in le_true p.y r (omega (arith, ints))) (λ e. let l = le_of p.y r e in le_true p.y row (omega (arith, ints))),
  one_test _ _ (λ e. let l = lt_of row p.y e in of_lt r p.y (omega (arith, ints)))
      (λ e. let l = lt_of r p.y e in by_lt_z row p.y (λ a. of_lt row p.y a) (λ a. let m = f a in absurd (omega (arith, ints)))),
)

-- points that are in range
in_range : (p : Point) → is_in_range p ≡ true → IsInRange p
in_range p h =
    let k = and_parts (within (negsuc 2047) p.x (pos 4095)) (within (negsuc 2047) p.y (pos 4095)) h in
    record { column = (within_low _ _ _ k.0, within_high _ _ _ k.0); row = (within_low _ _ _ k.1, within_high _ _ _ k.1) }

pub all_in_range : (ps : List Point) → list_all is_in_range ps ≡ true → All IsInRange ps
all_in_range [] h = All-nil IsInRange
all_in_range (p ∷ ps) h =
    let k = and_parts (is_in_range p) (list_all is_in_range ps) h in All-cons IsInRange p ps (in_range p k.0) (all_in_range ps k.1)

-- so the same edges cross both
pub same_crossing : (row r : ℤ) (s : Side) → AgreesAt row r s.from → AgreesAt row r s.to → crossing row s ≡ crossing r s
same_crossing row r s h k = rw (h.0, h.1, k.0, k.1) refl

-- an edge that has no row is left of no pixel
pub no_row : (a b : Point) (x y : ℤ) → (int_le a.y y && int_lt y b.y) ≡ false → passes a b x y ≡ false
unfolding passes
no_row a b x y e = rw e refl

one_edge : (a b : Point) (x y : ℤ) → holds_of_odd (is_passed x y) (record { upper = a; lower = b } ∷ []) ≡ passes a b x y
one_edge a b x y =
    odd_cons (is_passed x y) (record { upper = a; lower = b }) [] ∙ (ap (λ w. differ (passes a b x y) w) (odd_nil (is_passed x y)) ∙ differ_end (passes a b x y))
  where
    differ_end : (p : Bool) → differ p false ≡ p
    differ_end true = refl
    differ_end false = refl

-- an edge that crosses a row, by which end is above
down_step : (a b : Point) (x y : ℤ) (t : Bool) → (int_le a.y y && int_lt y b.y) ≡ t → int_lt a.y b.y ≡ true
    → holds_of_odd (is_passed x y) (cond t (record { upper = a; lower = b } ∷ []) (cond (int_le b.y y && int_lt y a.y) (record { upper = b; lower = a } ∷ []) []))
    ≡ passes a b x y
down_step a b x y true e l = one_edge a b x y
down_step a b x y false e l =
    let q : (int_le b.y y && int_lt y a.y) ≡ false =
    by_lt_z y a.y (λ h. let k = lt_of a.y b.y l in and_left _ _ (le_false b.y y (omega (arith, ints)))) (λ h. and_right (int_le b.y y) _ (le_lt_false y a.y h)) in
    ap (λ w. holds_of_odd (is_passed x y) (cond w (record { upper = b; lower = a } ∷ []) [])) q ∙ (odd_nil (is_passed x y) ∙ sym (no_row a b x y e))

up_step : (a b : Point) (x y : ℤ) (t : Bool) → (int_le b.y y && int_lt y a.y) ≡ t → (int_le a.y y && int_lt y b.y) ≡ false
    → holds_of_odd (is_passed x y) (cond t (record { upper = b; lower = a } ∷ []) []) ≡ passes b a x y
up_step a b x y true e l = one_edge b a x y
up_step a b x y false e l = odd_nil (is_passed x y) ∙ sym (no_row b a x y e)

-- the same edge with its ends in order
pub side_odd : (x y : ℤ) (s : Side) → holds_of_odd (is_passed x y) (crossing y s) ≡ is_left x y s
side_odd x y s =
    by_lt_z s.from.y s.to.y
    (λ h. down_step s.from s.to x y (int_le s.from.y y && int_lt y s.to.y) refl (of_lt _ _ h)
    ∙ sym (ap (λ w. cond w (passes s.from s.to x y) (cond (int_lt s.to.y s.from.y) (passes s.to s.from x y) false)) (of_lt _ _ h)))
    (λ h. let none : (int_le s.from.y y && int_lt y s.to.y) ≡ false =
    by_lt_z y s.from.y (λ k. and_left _ _ (le_false s.from.y y k)) (λ k. and_right (int_le s.from.y y) _ (le_lt_false y s.to.y (omega (arith, ints)))) in
    ap (λ w. holds_of_odd (is_passed x y) (cond w (record { upper = s.from; lower = s.to } ∷ []) (crossing_down y s.to s.from []))) none
    ∙ (up_step s.from s.to x y (int_le s.to.y y && int_lt y s.from.y) refl none
    ∙ sym (ap (λ w. cond w (passes s.from s.to x y) (cond (int_lt s.to.y s.from.y) (passes s.to s.from x y) false)) (le_lt_false _ _ h)
    ∙ level_step s x y (int_lt s.to.y s.from.y) refl)))
  where
    level_step : (s : Side) (x y : ℤ) (t : Bool) → int_lt s.to.y s.from.y ≡ t → cond t (passes s.to s.from x y) false ≡ passes s.to s.from x y
    level_step s x y true e = refl
    level_step s x y false e =
        sym (no_row s.to s.from x y (by_lt_z y s.to.y (λ k. and_left _ _ (le_false s.to.y y k))
        (λ k. and_right (int_le s.to.y y) _ (le_lt_false y s.from.y (by_lt_z s.to.y s.from.y (λ m. absurd (false≢true (sym e ∙ of_lt _ _ m))) (λ m. omega (arith, ints)))))))

-- what each end of these edges is
abbrev pub OfEnds : (Point → Type 0) → List Side → Type 0
OfEnds P [] = Unit {0}
OfEnds P (s ∷ ss) = (P s.from × P s.to) × OfEnds P ss

ends_way : (P : Point → Type 0) (p : Point) (qs : List Point) → P p → All P qs → OfEnds P (way p qs)
ends_way P p [] h k = tt
ends_way P p (q ∷ qs) h k = let m = All-head P q qs k in ((h, m), ends_way P q qs m (All-tail P q qs k))

pub ends_sides : (P : Point → Type 0) (points : List Point) → All P points → OfEnds P (sides points)
ends_sides P [] h = tt
ends_sides P (p ∷ ps) h =
    let m = All-head P p ps h in ends_way P p (ps ++ p ∷ []) m (All-append P ps (p ∷ []) (All-tail P p ps h) (All-cons P p [] m (All-nil P)))

-- the edges that cross a row are left of the pixels of another one of which all edges are left
pub crossing_odd : (row r x : ℤ) (ss : List Side) → OfEnds (AgreesAt row r) ss → holds_of_odd (is_passed x r) (flat_map (crossing row) ss) ≡ holds_of_odd (is_left x r) ss
crossing_odd row r x [] h = odd_nil (is_passed x r) ∙ sym (odd_nil (is_left x r))
crossing_odd row r x (s ∷ ss) h =
    odd_append (is_passed x r) (crossing row s) (flat_map (crossing row) ss)
    ∙ (ap (λ w. differ (holds_of_odd (is_passed x r) w) (holds_of_odd (is_passed x r) (flat_map (crossing row) ss))) (same_crossing row r s h.0.0 h.0.1)
    ∙ (ap (λ w. differ w (holds_of_odd (is_passed x r) (flat_map (crossing row) ss))) (side_odd x r s)
    ∙ (ap (λ w. differ (is_left x r s) w) (crossing_odd row r x ss h.1) ∙ sym (odd_cons (is_left x r) s ss))))

-- and they cross it
down_crosses : (r : ℤ) (a b : Point) (others : List Edge) → IsInRange a → IsInRange b → All (Crosses r) others → (t : Bool) → (int_le a.y r && int_lt r b.y) ≡ t
    → All (Crosses r) (cond t (record { upper = a; lower = b } ∷ []) others)
down_crosses r a b others h k l true e =
    let m = and_parts (int_le a.y r) (int_lt r b.y) e in
    All-cons (Crosses r) _ [] (record { upper = h; lower = k; begun = le_of _ _ m.0; ahead = lt_of _ _ m.1 }) (All-nil (Crosses r))
down_crosses r a b others h k l false e = l

pub crossing_crosses : (row r : ℤ) (ss : List Side) → OfEnds (AgreesAt row r) ss → OfEnds IsInRange ss → All (Crosses r) (flat_map (crossing row) ss)
crossing_crosses row r [] h k = All-nil (Crosses r)
crossing_crosses row r (s ∷ ss) h k =
    All-append (Crosses r) (crossing row s) (flat_map (crossing row) ss)
    (rw (same_crossing row r s h.0.0 h.0.1)
    (down_crosses r s.from s.to _ k.0.0 k.0.1 (down_crosses r s.to s.from [] k.0.1 k.0.0 (All-nil (Crosses r)) _ refl) _ refl))
    (crossing_crosses row r ss h.1 k.1)

-- the closing edge comes last
pub crossing_end : (row : ℤ) (points others : List Point) (first from : Point) (i : ℕ) (edges new : List Edge) → length others ≤ i
    → edges ++ flat_map (crossing row) (way from (drop i others ++ first ∷ [])) ≡ flat_map (crossing row) (sides points)
    → new ≡ edges ++ crossing row (record { from = from; to = first }) → new ≡ flat_map (crossing row) (sides points)
crossing_end row points others first from i edges new l e g =
    g ∙ (ap (λ w. edges ++ w) (sym (append-nil (crossing row (record { from = from; to = first })))) ∙ (ap (λ w. edges ++ flat_map (crossing row) (way from (w ++ first ∷ []))) (sym (drop_all i others l)) ∙ e))
