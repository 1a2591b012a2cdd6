-- The inner rectangle of a window and the machine's inner pixels.
use Rattle.std.proofs.Common.{◌≡◌, ℕ, ◌+◌, Bool, false, ◌&&◌, nat_le, nat_lt, ℤ, pos, negsuc, ◌+ℤ◌, ◌-ℤ◌, ◌≤ℤ◌, refl, sym}
use Rattle.std.proofs.Common.{◌∙◌, unsigned_abs, arith}
use Rattle.std.proofs.lemmas.Bool.{and_right}
use Rattle.std.proofs.lemmas.Bool.Decides.{nat_tests}
use Rattle.std.proofs.lemmas.Int.{ints}
use Rattle.lw_region.specs.Rectangle.{within, width, height, columns_of, rows_of}
use Rattle.lw_region.proofs.Lists.{and_alike}
use Rattle.lw_machine.specs.Kept.{in_inner, holds_at}
use Rattle.lw_gzz.specs.Together.{FrameLeavesInnerRectangle}

-- a test of a column or a row, asked at a signed number
abbrev from_edge : (ℕ → Bool) → ℤ → Bool
from_edge test (pos p) = test p
from_edge test (negsuc p) = false

both : (f g : ℕ → Bool) (x y : ℤ) → holds_at (λ i j. f i && g j) x y ≡ (from_edge f x && from_edge g y)
both f g (pos x) (pos y) = refl
both f g (pos x) (negsuc y) = sym (and_right (f x) false refl)
both f g (negsuc x) y = refl

-- along one axis, where the frame takes so many columns or rows at the lower end and at the higher one
axis : (low high z d : ℤ) (first last n : ℕ) → d ≡ z -ℤ low → pos n ≡ (high +ℤ pos 1) -ℤ low
    → within (low +ℤ pos first) z (high -ℤ pos last) ≡ from_edge (λ p. nat_le first p && nat_lt (p + last) n) d
unfolding within
axis low high z (pos p) first last n at size = grind (arith, ints, nat_tests)
axis low high z (negsuc p) first last n at size = grind (arith, ints)

count_is : (z : ℤ) → pos 1 ≤ℤ z → pos (unsigned_abs z) ≡ z
count_is (pos n) some = refl
count_is (negsuc n) some = absurd (omega (arith, ints))

ordered_count : (low high : ℤ) → low ≤ℤ high → pos 1 ≤ℤ ((high +ℤ pos 1) -ℤ low)
ordered_count low high is = omega (arith, ints)

pub frame_leaves : FrameLeavesInnerRectangle
unfolding in_inner
frame_leaves r x y ordered =
    and_alike _ _ _ _
    (axis r.min_x r.max_x x (x -ℤ r.min_x) 4 4 (width r) refl
    (count_is (columns_of r) (ordered_count r.min_x r.max_x ordered.columns)))
    (axis r.min_y r.max_y y (y -ℤ r.min_y) 11 2 (height r) refl
    (count_is (rows_of r) (ordered_count r.min_y r.max_y ordered.rows))) ∙
    sym (both _ _ (x -ℤ r.min_x) (y -ℤ r.min_y))
