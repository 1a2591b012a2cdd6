-- In which fill of a frame a pixel lies.
use Rattle.std.proofs.Common.{◌≡◌, ℕ, ◌+◌, ◌-◌, ◌≤◌, ◌<◌, Bool, true, false, ◌&&◌, ◌||◌, nat_le, nat_lt, pos, negsuc, refl, arith}
use Rattle.std.proofs.lemmas.Bool.Decides.{nat_tests}
use Rattle.std.proofs.lemmas.Bool.{and_right}
use Rattle.std.proofs.lemmas.Int.{ints}
use Rattle.std.proofs.Math.Bool.{and-true}
use Rattle.lw_region.specs.Rectangle.{within}
use Rattle.lw_machine.specs.Kept.{in_inner}
use Rattle.lw_machine.specs.Reveal.{in_frame}
use Rattle.lw_windows.specs.Frames.{frame_fills, as_number, AreFrame, LeaveInner}

-- the fills one by one, as the machine's frame has them
top_is : (w h x y : ℕ) → x < w
    → (within (pos 0) (pos x) (pos (w - 1)) && within (pos 0) (pos y) (pos 10)) ≡ nat_le y 10
unfolding within
top_is w h x y left = grind (arith, ints, nat_tests)

left_is : (w h x y : ℕ) → y < h
    → (within (pos 0) (pos x) (pos 3) && within (pos 11) (pos y) (pos (h - 1))) ≡ (nat_le 11 y && nat_le x 3)
unfolding within
left_is w h x y low = grind (arith, ints, nat_tests)

right_is : (w h x y : ℕ) → 9 ≤ w → x < w → y < h
    → (within (pos (w - 4)) (pos x) (pos (w - 1)) && within (pos 11) (pos y) (pos (h - 1))) ≡ (nat_le 11 y && nat_le w (x + 4))
unfolding within
right_is w h x y wide left low = grind (arith, ints, nat_tests)

bottom_is : (w h x y : ℕ) → 9 ≤ w → 14 ≤ h → x < w → y < h
    → (within (pos 4) (pos x) (pos (w - 5)) && within (pos (h - 2)) (pos y) (pos (h - 1)))
    ≡ (nat_le h (y + 2) && (nat_le 4 x && nat_lt (x + 4) w))
unfolding within
bottom_is w h x y wide high left low = grind (arith, ints, nat_tests)

or_four : (p q r s : Bool) → (p || (q || (r || (s || false)))) ≡ ((p || q) || (r || s))
or_four true q r s = refl
or_four false true r s = refl
or_four false false true s = refl
or_four false false false true = refl
or_four false false false false = refl

four_tests : (a b c d p q r s : Bool) → a ≡ p → b ≡ q → c ≡ r → d ≡ s → (a || (b || (c || (d || false)))) ≡ ((p || q) || (r || s))
four_tests a b c d p q r s e f g i = rw (e, f, g, i) (or_four p q r s)

-- the fills have the pixels of the frame
pub fills_are_frame : (w h : ℕ) → 9 ≤ w → 14 ≤ h → AreFrame w h (frame_fills w h)
unfolding in_frame
fills_are_frame w h wide high x y left low =
    four_tests _ _ _ _ _ _ _ _ (top_is w h x y left) (left_is w h x y low) (right_is w h x y wide left low)
    (bottom_is w h x y wide high left low)

-- the columns of a window fall into three parts, and the rows below its top into two
columns_once : (w x : ℕ) → 9 ≤ w
    → as_number (within (pos 0) (pos x) (pos 3))
    + (as_number (within (pos (w - 4)) (pos x) (pos (w - 1))) + as_number (within (pos 4) (pos x) (pos (w - 5))))
    ≡ as_number (within (pos 0) (pos x) (pos (w - 1)))
unfolding within
columns_once w x wide = grind (arith, ints, nat_tests)

below_once : (h y : ℕ) → 14 ≤ h
    → as_number (within (pos (h - 2)) (pos y) (pos (h - 1))) + as_number (nat_le 11 y && nat_lt (y + 2) h)
    ≡ as_number (within (pos 11) (pos y) (pos (h - 1)))
unfolding within
below_once h y high = grind (arith, ints, nat_tests)

rows_once : (h y : ℕ) → 14 ≤ h
    → as_number (within (pos 0) (pos y) (pos 10)) + as_number (within (pos 11) (pos y) (pos (h - 1))) ≡ as_number (nat_lt y h)
unfolding within
rows_once h y high = grind (arith, ints, nat_tests)

-- where the one part holds, and both parts are the whole
split_right : (a b c all : Bool) → as_number b + as_number c ≡ as_number all
    → as_number (a && b) + as_number (a && c) ≡ as_number (a && all)
split_right true b c all e = e
split_right false b c all e = refl

split_left : (a b c all d : Bool) → as_number a + (as_number b + as_number c) ≡ as_number all
    → as_number (a && d) + (as_number (b && d) + as_number (c && d)) ≡ as_number (all && d)
split_left a b c all true e = rw (and-true a, and-true b, and-true c, and-true all) e
split_left a b c all false e =
    rw (and_right a false refl, and_right b false refl, and_right c false refl, and_right all false refl) refl

sum_once : (top left right bottom inner below columns all : ℕ) → bottom + inner ≡ below → left + (right + below) ≡ columns
    → top + columns ≡ all → (top + (left + (right + (bottom + 0)))) + inner ≡ all
sum_once top left right bottom inner below columns all e f g = omega arith

tests_once : (columns left right middle rows top below bottom inside : Bool)
    → as_number left + (as_number right + as_number middle) ≡ as_number columns
    → as_number bottom + as_number inside ≡ as_number below
    → as_number top + as_number below ≡ as_number rows
    → (as_number (columns && top)
    + (as_number (left && below) + (as_number (right && below) + (as_number (middle && bottom) + 0))))
    + as_number (middle && inside)
    ≡ as_number (columns && rows)
tests_once columns left right middle rows top below bottom inside across down whole =
    sum_once (as_number (columns && top)) (as_number (left && below)) (as_number (right && below)) (as_number (middle && bottom))
    (as_number (middle && inside)) (as_number (middle && below)) (as_number (columns && below)) (as_number (columns && rows))
    (split_right middle bottom inside below down) (split_left left right middle columns below across)
    (split_right columns top below rows whole)

-- the tests along an axis by which a window has its pixels, and its inner rectangle
whole_axis : (w x : ℕ) → 9 ≤ w → nat_lt x w ≡ within (pos 0) (pos x) (pos (w - 1))
unfolding within
whole_axis w x wide = grind (arith, ints, nat_tests)

middle_axis : (w x : ℕ) → 9 ≤ w → (nat_le 4 x && nat_lt (x + 4) w) ≡ within (pos 4) (pos x) (pos (w - 5))
unfolding within
middle_axis w x wide = grind (arith, ints, nat_tests)

-- in a row above the window no test holds
none_once : (a b c d : Bool)
    → (as_number (a && false) + (as_number (b && false) + (as_number (c && false) + (as_number (d && false) + 0)))) + 0 ≡ 0
none_once a b c d =
    rw (and_right a false refl, and_right b false refl, and_right c false refl, and_right d false refl) refl

-- each pixel of the window lies in one fill or in the inner rectangle, and any other in none
pub fills_once : (w h : ℕ) → 9 ≤ w → 14 ≤ h → LeaveInner w h (frame_fills w h)
unfolding in_inner within
fills_once w h wide high (pos x) (pos y) =
    rw (whole_axis w x wide, middle_axis w x wide)
    (tests_once (within (pos 0) (pos x) (pos (w - 1))) (within (pos 0) (pos x) (pos 3))
    (within (pos (w - 4)) (pos x) (pos (w - 1))) (within (pos 4) (pos x) (pos (w - 5))) (nat_lt y h) (within (pos 0) (pos y) (pos 10)) (within (pos 11) (pos y) (pos (h - 1)))
    (within (pos (h - 2)) (pos y) (pos (h - 1))) (nat_le 11 y && nat_lt (y + 2) h)
    (columns_once w x wide) (below_once h y high) (rows_once h y high))
fills_once w h wide high (pos x) (negsuc y) = none_once _ _ _ _
fills_once w h wide high (negsuc x) y = refl
