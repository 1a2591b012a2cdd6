-- What some rectangles cover changes at their edges alone.
use Rattle.std.proofs.Common.{◌≡◌, ◌+◌, ◌*◌, ◌≤◌, Bool, true, false, not, ◌&&◌, ◌||◌, List, [], ◌∷◌, length, ℤ, pos, ◌+ℤ◌, ◌-ℤ◌}
use Rattle.std.proofs.Common.{◌≤ℤ◌, refl, sym, ap, subst, ◌∙◌, arith}
use Rattle.std.specs.Ordering.{int_eq}
use Rattle.std.proofs.lemmas.Int.{ints, by_lt_z}
use Rattle.std.proofs.lemmas.Bool.{false≢true}
use Rattle.std.proofs.lemmas.Bool.Decides.{Decides-int_eq}
use Rattle.lw_region.specs.Rectangle.{Rectangle, within, has_pixel}
use Rattle.lw_region.specs.Bands.{covers}
use Rattle.lw_region.proofs.Canonical.{covers_nil, covers_cons}
use Rattle.lw_region.proofs.Within.{within_true, within_below, within_above}
use Rattle.lw_bounds.specs.Cuts.{is_cut, ChangesAt, rectangle_count, cut_columns, cut_rows, RectanglesUnderCoversAreFew}
use Rattle.lw_bounds.specs.Cuts.{RectanglesOnScreensAreFew}
use Rattle.lw_bounds.proofs.CutCorners.{past_least, few_under_cuts}

-- a test that is false of two numbers tells them apart
differ : (y z : ℤ) → int_eq y z ≡ false → y ≡ z → ⊥
differ y z e same = false≢true (sym e ∙ (Decides-int_eq y z).1 same)

-- a place that isn't right after the greatest one is no greater
below_last : (a b : ℤ) → a ≤ℤ (b +ℤ pos 1) → (a ≡ b +ℤ pos 1 → ⊥) → a ≤ℤ b
below_last a b below other = by_lt_z b a (λ more. absurd (other (omega (arith, ints)))) (λ less. less)

-- a place and the one before it are alike within two others, but at the least one and right after the greatest one
alike : (low z high : ℤ) → int_eq z low ≡ false → int_eq z (high +ℤ pos 1) ≡ false
    → within low z high ≡ within low (z -ℤ pos 1) high
alike low z high first last =
    by_lt_z z low
    (λ below. within_below low z high below ∙ sym (within_below low (z -ℤ pos 1) high (omega (arith, ints))))
    (λ at_least. by_lt_z (high +ℤ pos 1) z
    (λ past. within_above low z high (omega (arith, ints)) ∙ sym (within_above low (z -ℤ pos 1) high (omega (arith, ints))))
    (λ at_most.
    within_true low z high at_least (below_last z high at_most (differ z (high +ℤ pos 1) last)) ∙
    sym (within_true low (z -ℤ pos 1) high (past_least low z at_least (differ z low first)) (omega (arith, ints)))))

-- neither of two tests holds where their disjunction doesn't
neither : (a b : Bool) → (a || b) ≡ false → (a ≡ false) × (b ≡ false)
neither false false e = (refl, refl)
neither false true e = absurd (cc)
neither true b e = absurd (cc)

across_covers : (front : List Rectangle) (x y : ℤ) → is_cut (cut_columns front) x ≡ false
    → covers front x y ≡ covers front (x -ℤ pos 1) y
across_covers [] x y none = covers_nil x y ∙ sym (covers_nil (x -ℤ pos 1) y)
across_covers (c ∷ cs) x y none =
    let first = neither (int_eq x c.min_x) _ none in
    let last = neither (int_eq x (c.max_x +ℤ pos 1)) _ first.1 in
    covers_cons c cs x y ∙
    (ap (λ t. (t && within c.min_y y c.max_y) || covers cs x y) (alike c.min_x x c.max_x first.0 last.0) ∙
    (ap (λ t. has_pixel c (x -ℤ pos 1) y || t) (across_covers cs x y last.1) ∙ sym (covers_cons c cs (x -ℤ pos 1) y)))

down_covers : (front : List Rectangle) (x y : ℤ) → is_cut (cut_rows front) y ≡ false
    → covers front x y ≡ covers front x (y -ℤ pos 1)
down_covers [] x y none = covers_nil x y ∙ sym (covers_nil x (y -ℤ pos 1))
down_covers (c ∷ cs) x y none =
    let first = neither (int_eq y c.min_y) _ none in
    let last = neither (int_eq y (c.max_y +ℤ pos 1)) _ first.1 in
    covers_cons c cs x y ∙
    (ap (λ t. (within c.min_x x c.max_x && t) || covers cs x y) (alike c.min_y y c.max_y first.0 last.0) ∙
    (ap (λ t. has_pixel c x (y -ℤ pos 1) || t) (down_covers cs x y last.1) ∙ sym (covers_cons c cs x (y -ℤ pos 1))))

two_columns : (front : List Rectangle) → length (cut_columns front) ≡ 2 * length front
two_columns [] = refl
two_columns (c ∷ cs) = let rest = two_columns cs in omega (arith, rest)

two_rows : (front : List Rectangle) → length (cut_rows front) ≡ 2 * length front
two_rows [] = refl
two_rows (c ∷ cs) = let rest = two_rows cs in omega (arith, rest)

pub few_under_covers : RectanglesUnderCoversAreFew
few_under_covers bounds front visible is =
    let changes : ChangesAt (cut_columns front) (cut_rows front) (λ x y. not (covers front x y)) =
    record { across = λ x y e. ap not (across_covers front x y e); down = λ x y e. ap not (down_covers front x y e) } in
    rw (two_columns front, two_rows front) at
    (few_under_cuts bounds (cut_columns front) (cut_rows front) (λ x y. not (covers front x y)) visible changes is)

-- what lies on a screen, too, changes at its edges and at those of covers alone
pub few_on_screens : RectanglesOnScreensAreFew
few_on_screens bounds screen front visible is =
    let all = screen ∷ front in
    let changes : ChangesAt (cut_columns all) (cut_rows all) (λ x y. has_pixel screen x y && not (covers front x y)) =
    record { across = across; down = down } in
    let few = rw (two_columns all, two_rows all) at
    (few_under_cuts bounds (cut_columns all) (cut_rows all) _ visible changes is) in
    let sides : 2 * length all + 1 ≡ 2 * length front + 3 = omega arith in
    subst (λ k. rectangle_count bounds visible ≤ k * k) sides few
  where
    across : (x y : ℤ) → is_cut (cut_columns (screen ∷ front)) x ≡ false
        → (has_pixel screen x y && not (covers front x y))
        ≡ (has_pixel screen (x -ℤ pos 1) y && not (covers front (x -ℤ pos 1) y))
    across x y none =
        let first = neither (int_eq x screen.min_x) _ none in
        let last = neither (int_eq x (screen.max_x +ℤ pos 1)) _ first.1 in
        ap (λ t. (t && within screen.min_y y screen.max_y) && not (covers front x y))
        (alike screen.min_x x screen.max_x first.0 last.0)
        ∙ ap (λ t. has_pixel screen (x -ℤ pos 1) y && not t) (across_covers front x y last.1)

    down : (x y : ℤ) → is_cut (cut_rows (screen ∷ front)) y ≡ false
        → (has_pixel screen x y && not (covers front x y))
        ≡ (has_pixel screen x (y -ℤ pos 1) && not (covers front x (y -ℤ pos 1)))
    down x y none =
        let first = neither (int_eq y screen.min_y) _ none in
        let last = neither (int_eq y (screen.max_y +ℤ pos 1)) _ first.1 in
        ap (λ t. (within screen.min_x x screen.max_x && t) && not (covers front x y))
        (alike screen.min_y y screen.max_y first.0 last.0)
        ∙ ap (λ t. has_pixel screen x (y -ℤ pos 1) && not t) (down_covers front x y last.1)
