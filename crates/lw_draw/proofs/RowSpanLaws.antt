-- Laws of the columns that a line has in a row.
use Rattle.std.proofs.Common.{◌≡◌, ℕ, ◌+◌, ◌==◌, ◌<◌, ◌≤◌, nat_le, Bool, true, false, not, ◌&&◌, if◌then◌else◌, ◌∙◌, sym, refl, ap, ⊎_elim, inl, inr, ◌⊎◌, arith, ℤ, pos, ◌+ℤ◌, ◌-ℤ◌, ◌≤ℤ◌, ◌<ℤ◌, int_le, unsigned_abs, FitsSigned, w16, w32, to_z, of_z}
use Rattle.std.specs.Int.{int_min, int_max}
use Rattle.std.specs.Ordering.{int_eq}
use Rattle.std.proofs.lemmas.Bool.{cases_lt, cases_Bool, and_parts}
use Rattle.std.proofs.lemmas.Bool.Decides.{nat_tests}
use Rattle.std.proofs.lemmas.Int.{ints}
use Rattle.lw_region.specs.Rectangle.{within}
use Rattle.lw_machine.specs.Shapes.{line_offset, is_on_axes, is_on_line}
use Rattle.lw_draw.specs.LineSpans.{has_row}
use Rattle.lw_draw.specs.Walks.{wide, high, rows_before, IsFirstStep}
use Rattle.lw_draw.specs.declared.row_spans.Line.{Line}
use Rattle.lw_draw.proofs.StepLaws.{offset_small}

-- a place between two others, in their order
pub between_rising : (a b z : ℤ) → a ≤ℤ b → within (int_min a b) z (int_max a b) ≡ within a z b
unfolding within
between_rising a b z ordered = grind (arith, ints)

pub between_falling : (a b z : ℤ) → b <ℤ a → within (int_min a b) z (int_max a b) ≡ within b z a
unfolding within
between_falling a b z ordered = grind (arith, ints)

-- a place with its steps towards another
rising_steps : (from to z : ℤ) (d k : ℕ) → from ≤ℤ to → within from z to ≡ true → k ≡ unsigned_abs (z -ℤ from) → int_eq z (if int_le from to then from +ℤ pos d else from -ℤ pos d) ≡ (d == k)
unfolding within
rising_steps from to z d k ordered inside is = grind (arith, ints, nat_tests)

falling_steps : (from to z : ℤ) (d k : ℕ) → to <ℤ from → within to z from ≡ true → k ≡ unsigned_abs (z -ℤ from) → int_eq z (if int_le from to then from +ℤ pos d else from -ℤ pos d) ≡ (d == k)
unfolding within
falling_steps from to z d k ordered inside is = grind (arith, ints, nat_tests)

-- the columns of the steps from one on and before another, to the right
rising_columns : (from to x : ℤ) (n k a b d i : ℕ) → from ≤ℤ to → n ≡ unsigned_abs (to -ℤ from) → i ≡ unsigned_abs (x -ℤ from) → b ≤ n + 1 → (i ≤ n → nat_le a i ≡ nat_le k d) → (i ≤ n → nat_le b i ≡ nat_le (k + 1) d) → (within from x to && (d == k)) ≡ (int_le (from +ℤ pos a) x && not (int_le (from +ℤ pos b) x))
unfolding within
rising_columns from to x n k a b d i ordered steps here near first past = grind (arith, ints, nat_tests)

-- and to the left
falling_inside : (from to x : ℤ) (n k a b d i : ℕ) → to <ℤ from → n ≡ unsigned_abs (to -ℤ from) → i ≡ unsigned_abs (x -ℤ from) → b ≤ n + 1 → i ≤ n → nat_le a i ≡ nat_le k d → nat_le b i ≡ nat_le (k + 1) d → (within to x from && (d == k)) ≡ (int_le ((from -ℤ pos b) +ℤ pos 1) x && not (int_le ((from -ℤ pos a) +ℤ pos 1) x))
unfolding within
falling_inside from to x n k a b d i ordered steps here near inside first past = grind (arith, ints, nat_tests)

falling_outside : (from to x : ℤ) (n k a b d i : ℕ) → to <ℤ from → n ≡ unsigned_abs (to -ℤ from) → i ≡ unsigned_abs (x -ℤ from) → b ≤ n + 1 → n < i → (within to x from && (d == k)) ≡ (int_le ((from -ℤ pos b) +ℤ pos 1) x && not (int_le ((from -ℤ pos a) +ℤ pos 1) x))
unfolding within
falling_outside from to x n k a b d i ordered steps here near outside = grind (arith, ints, nat_tests)

falling_columns : (from to x : ℤ) (n k a b d i : ℕ) → to <ℤ from → n ≡ unsigned_abs (to -ℤ from) → i ≡ unsigned_abs (x -ℤ from) → b ≤ n + 1 → (i ≤ n → nat_le a i ≡ nat_le k d) → (i ≤ n → nat_le b i ≡ nat_le (k + 1) d) → (within to x from && (d == k)) ≡ (int_le ((from -ℤ pos b) +ℤ pos 1) x && not (int_le ((from -ℤ pos a) +ℤ pos 1) x))
falling_columns from to x n k a b d i ordered steps here near first past =
    ⊎_elim
    (λ (outside : n < i). falling_outside from to x n k a b d i ordered steps here near outside)
    (λ (inside : i ≤ n). falling_inside from to x n k a b d i ordered steps here near inside (first inside) (past inside))
    (cases_lt n i)

-- either the places rise or they fall
order_cases : (a b : ℤ) → (a ≤ℤ b) ⊎ (b <ℤ a)
order_cases a b = ⊎_elim (λ (up : int_le a b ≡ true). inl (grind (arith, ints))) (λ (down : int_le a b ≡ false). inr (grind (arith, ints))) (cases_Bool (int_le a b))

-- a place on the short axis
pub short_steps : (from to z : ℤ) (d k : ℕ) → within (int_min from to) z (int_max from to) ≡ true → k ≡ unsigned_abs (z -ℤ from) → int_eq z (if int_le from to then from +ℤ pos d else from -ℤ pos d) ≡ (d == k)
short_steps from to z d k inside is =
    ⊎_elim
    (λ (up : from ≤ℤ to). rising_steps from to z d k up (sym (between_rising from to z up) ∙ inside) is)
    (λ (down : to <ℤ from). falling_steps from to z d k down (sym (between_falling from to z down) ∙ inside) is)
    (order_cases from to)

-- The pixels in a row of a line whose long axis is that of x: to the right.
pub flat_right : (l : Line) (x y : ℤ) (a b : ℕ) → l.x0 ≤ℤ l.x1 → has_row l y ≡ true → b ≤ wide l + 1 → IsFirstStep l (rows_before l y) a → IsFirstStep l (rows_before l y + 1) b → is_on_axes l.x0 l.x1 l.y0 l.y1 x y ≡ (int_le (l.x0 +ℤ pos a) x && not (int_le (l.x0 +ℤ pos b) x))
flat_right l x y a b ordered inside near first past =
    let i = unsigned_abs (x -ℤ l.x0) in
    let d = line_offset (wide l) (high l) i in
    ap (λ t. t && int_eq y (if int_le l.y0 l.y1 then l.y0 +ℤ pos d else l.y0 -ℤ pos d)) (between_rising l.x0 l.x1 x ordered) ∙
    (ap (λ t. within l.x0 x l.x1 && t) (short_steps l.y0 l.y1 y d (rows_before l y) inside refl) ∙
    rising_columns l.x0 l.x1 x (wide l) (rows_before l y) a b d i ordered refl refl near (first i) (past i))

-- To the left.
pub flat_left : (l : Line) (x y : ℤ) (a b : ℕ) → l.x1 <ℤ l.x0 → has_row l y ≡ true → b ≤ wide l + 1 → IsFirstStep l (rows_before l y) a → IsFirstStep l (rows_before l y + 1) b → is_on_axes l.x0 l.x1 l.y0 l.y1 x y ≡ (int_le ((l.x0 -ℤ pos b) +ℤ pos 1) x && not (int_le ((l.x0 -ℤ pos a) +ℤ pos 1) x))
flat_left l x y a b ordered inside near first past =
    let i = unsigned_abs (x -ℤ l.x0) in
    let d = line_offset (wide l) (high l) i in
    ap (λ t. t && int_eq y (if int_le l.y0 l.y1 then l.y0 +ℤ pos d else l.y0 -ℤ pos d)) (between_falling l.x0 l.x1 x ordered) ∙
    (ap (λ t. within l.x1 x l.x0 && t) (short_steps l.y0 l.y1 y d (rows_before l y) inside refl) ∙
    falling_columns l.x0 l.x1 x (wide l) (rows_before l y) a b d i ordered refl refl near (first i) (past i))

-- the one place
one_place : (x at : ℤ) → int_eq x at ≡ (int_le at x && not (int_le (at +ℤ pos 1) x))
one_place x at = grind (arith, ints)

-- The pixel in a row of a line whose long axis is that of y.
pub steep_one : (l : Line) (x y at : ℤ) (d : ℕ) → has_row l y ≡ true → d ≡ line_offset (high l) (wide l) (rows_before l y) → at ≡ (if int_le l.x0 l.x1 then l.x0 +ℤ pos d else l.x0 -ℤ pos d) → is_on_axes l.y0 l.y1 l.x0 l.x1 y x ≡ (int_le at x && not (int_le (at +ℤ pos 1) x))
steep_one l x y at d inside moved is =
    let place : ℕ → ℤ = λ u. if int_le l.x0 l.x1 then l.x0 +ℤ pos u else l.x0 -ℤ pos u in
    ap (λ t. t && int_eq x (place (line_offset (high l) (wide l) (rows_before l y)))) inside ∙
    (ap (λ u. int_eq x (place u)) (sym moved) ∙ (ap (λ z. int_eq x z) (sym is) ∙ one_place x at))

-- a place between two others is no further from the first than the second, and as small as the larger one
rising_near : (from to z : ℤ) → from ≤ℤ to → within from z to ≡ true → unsigned_abs (z -ℤ from) ≤ unsigned_abs (to -ℤ from)
unfolding within
rising_near from to z ordered inside = grind (arith, ints)

falling_near : (from to z : ℤ) → to <ℤ from → within to z from ≡ true → unsigned_abs (z -ℤ from) ≤ unsigned_abs (to -ℤ from)
unfolding within
falling_near from to z ordered inside = grind (arith, ints)

pub steps_between : (from to z : ℤ) → within (int_min from to) z (int_max from to) ≡ true → unsigned_abs (z -ℤ from) ≤ unsigned_abs (to -ℤ from)
steps_between from to z inside =
    ⊎_elim
    (λ (up : from ≤ℤ to). rising_near from to z up (sym (between_rising from to z up) ∙ inside))
    (λ (down : to <ℤ from). falling_near from to z down (sym (between_falling from to z down) ∙ inside))
    (order_cases from to)

-- A line's pixels are in its rows.
rising_row : (from to z : ℤ) (d : ℕ) → from ≤ℤ to → d ≤ unsigned_abs (to -ℤ from) → int_eq z (if int_le from to then from +ℤ pos d else from -ℤ pos d) ≡ true → within from z to ≡ true
unfolding within
rising_row from to z d ordered small is = grind (arith, ints)

falling_row : (from to z : ℤ) (d : ℕ) → to <ℤ from → d ≤ unsigned_abs (to -ℤ from) → int_eq z (if int_le from to then from +ℤ pos d else from -ℤ pos d) ≡ true → within to z from ≡ true
unfolding within
falling_row from to z d ordered small is = grind (arith, ints)

rows_of_flat : (x0 x1 y0 y1 x y : ℤ) → is_on_axes x0 x1 y0 y1 x y ≡ true → within (int_min y0 y1) y (int_max y0 y1) ≡ true
rows_of_flat x0 x1 y0 y1 x y on =
    let both = and_parts _ _ on in
    let d = line_offset (unsigned_abs (x1 -ℤ x0)) (unsigned_abs (y1 -ℤ y0)) (unsigned_abs (x -ℤ x0)) in
    let small : d ≤ unsigned_abs (y1 -ℤ y0) = offset_small _ _ _ (steps_between x0 x1 x both.0) in
    ⊎_elim
    (λ (up : y0 ≤ℤ y1). between_rising y0 y1 y up ∙ rising_row y0 y1 y d up small both.1)
    (λ (down : y1 <ℤ y0). between_falling y0 y1 y down ∙ falling_row y0 y1 y d down small both.1)
    (order_cases y0 y1)

by_axis : (x0 y0 x1 y1 x y : ℤ) (flat : Bool) → (if flat then is_on_axes x0 x1 y0 y1 x y else is_on_axes y0 y1 x0 x1 y x) ≡ true → within (int_min y0 y1) y (int_max y0 y1) ≡ true
by_axis x0 y0 x1 y1 x y true on = rows_of_flat x0 x1 y0 y1 x y on
by_axis x0 y0 x1 y1 x y false on = (and_parts _ _ on).0

pub rows_of_line : (x0 y0 x1 y1 x y : ℤ) → is_on_line x0 y0 x1 y1 x y ≡ true → within (int_min y0 y1) y (int_max y0 y1) ≡ true
unfolding is_on_line
rows_of_line x0 y0 x1 y1 x y on = by_axis x0 y0 x1 y1 x y (nat_le (unsigned_abs (y1 -ℤ y0)) (unsigned_abs (x1 -ℤ x0))) on

-- a place between two that fit also fits
rising_fits : (from to z : ℤ) → FitsSigned w16 from → FitsSigned w16 to → from ≤ℤ to → within from z to ≡ true → FitsSigned w16 z
unfolding within
rising_fits from to z first last ordered inside = grind (arith, ints)

falling_fits : (from to z : ℤ) → FitsSigned w16 from → FitsSigned w16 to → to <ℤ from → within to z from ≡ true → FitsSigned w16 z
unfolding within
falling_fits from to z first last ordered inside = grind (arith, ints)

pub between_fits : (from to z : ℤ) → FitsSigned w16 from → FitsSigned w16 to → within (int_min from to) z (int_max from to) ≡ true → FitsSigned w16 z
between_fits from to z first last inside =
    ⊎_elim
    (λ (up : from ≤ℤ to). rising_fits from to z first last up (sym (between_rising from to z up) ∙ inside))
    (λ (down : to <ℤ from). falling_fits from to z first last down (sym (between_falling from to z down) ∙ inside))
    (order_cases from to)

-- the same by other names of the numbers
pub steps_same : (a b c d : ℤ) (n : ℕ) → n ≡ unsigned_abs (a -ℤ b) → a ≡ c → b ≡ d → n ≡ unsigned_abs (c -ℤ d)
steps_same a b c d n is first last = is ∙ (ap (λ z. unsigned_abs (z -ℤ b)) first ∙ ap (λ z. unsigned_abs (c -ℤ z)) last)

pub reach_same : (a b c d x : ℤ) → a ≡ c → b ≡ d → (int_le c x && not (int_le d x)) ≡ (int_le a x && not (int_le b x))
reach_same a b c d x first last = ap (λ z. int_le z x && not (int_le d x)) (sym first) ∙ ap (λ z. int_le a x && not (int_le z x)) (sym last)

pub in_order : (a b c d : ℤ) → int_le a b ≡ true → a ≡ c → b ≡ d → c ≤ℤ d
in_order a b c d is first last = grind (arith, ints)

pub out_of_order : (a b c d : ℤ) → int_le a b ≡ false → a ≡ c → b ≡ d → d <ℤ c
out_of_order a b c d is first last = grind (arith, ints)

pub towards_same : (a b c d at : ℤ) (steps : ℕ) → at ≡ (if int_le a b then a +ℤ pos steps else a -ℤ pos steps) → a ≡ c → b ≡ d → at ≡ (if int_le c d then c +ℤ pos steps else c -ℤ pos steps)
towards_same a b c d at steps is first last =
    is ∙ (ap (λ z. if int_le z b then z +ℤ pos steps else z -ℤ pos steps) first ∙ ap (λ z. if int_le c z then c +ℤ pos steps else c -ℤ pos steps) last)

pub by_axis_same : (x0 y0 x1 y1 x y : ℤ) (flat on : Bool) → nat_le (unsigned_abs (y1 -ℤ y0)) (unsigned_abs (x1 -ℤ x0)) ≡ flat → (if flat then is_on_axes x0 x1 y0 y1 x y else is_on_axes y0 y1 x0 x1 y x) ≡ on → is_on_line x0 y0 x1 y1 x y ≡ on
unfolding is_on_line
by_axis_same x0 y0 x1 y1 x y flat on is same = ap (λ t. if t then is_on_axes x0 x1 y0 y1 x y else is_on_axes y0 y1 x0 x1 y x) is ∙ same

pub one_further : (r v : ℤ) → FitsSigned w32 r → r <ℤ pos 100000 → r ≡ v → to_z w32 (of_z w32 (to_z w32 (of_z w32 r) +ℤ pos 1)) ≡ v +ℤ pos 1
one_further r v fits low is = omega (arith, ints)

pub flat_test : (a b : ℕ) → a ≤ b → nat_le a b ≡ true
flat_test a b flat = grind (arith, nat_tests)

pub steep_test : (a b : ℕ) → b < a → nat_le a b ≡ false
steep_test a b steep = grind (arith, nat_tests)
