-- What the bounds of a rectangle that fits satisfy.
use Rattle.std.proofs.Common.{◌≡◌, true, ℤ, pos, negsuc, ◌≤ℤ◌, ◌+ℤ◌, ◌-ℤ◌, to_z, of_z, w16, w32, w64, Option, Some, None, SomeIff, IsSome, IsTrue, sym, subst, ◌∙◌, arith, rules}
use Rattle.lw_region.specs.Rectangle.{Rectangle, IsOrdered, within}
use Rattle.lw_region.proofs.Numbers.{le_trans}
use Rattle.lw_calls.specs.Limits.{is_coordinate, axis_fits, rect_fits}
use Rattle.std.proofs.lemmas.Bool.{and_parts}
use Rattle.std.proofs.lemmas.Int.{ints}
use Rattle.std.proofs.lemmas.Bool.Decides.{nat_tests}

-- what a fitting axis satisfies
pub record IsAxis (low high : ℤ) : Type 0 where
  pub least : negsuc 32767 ≤ℤ low
  pub order : low ≤ℤ high
  pub greatest : high ≤ℤ pos 32767

pub axis : (low high : ℤ) → axis_fits low high ≡ true → IsAxis low high
unfolding within axis_fits
axis low high h =
    record { least = grind (arith, ints, nat_tests); order = grind (arith, ints, nat_tests); greatest = grind (arith, ints, nat_tests) }

-- both axes
pub axes : (r : Rectangle) → IsTrue (rect_fits r) → IsAxis r.min_x r.max_x × IsAxis r.min_y r.max_y
axes r h =
    let k = and_parts (axis_fits r.min_x r.max_x) (axis_fits r.min_y r.max_y) h in
    (axis r.min_x r.max_x k.0, axis r.min_y r.max_y k.1)

-- a bound is a coordinate in 64 bits too
same_in_64 : (z : ℤ) → negsuc 32767 ≤ℤ z → z ≤ℤ pos 32767 → to_z w64 (of_z w64 z) ≡ z
same_in_64 z low high = omega (arith, ints)

is_one : (z : ℤ) → negsuc 32767 ≤ℤ z → z ≤ℤ pos 32767 → is_coordinate z ≡ true
unfolding within
is_one z low high = grind (arith, ints, nat_tests)

coordinate_64 : (z : ℤ) → negsuc 32767 ≤ℤ z → z ≤ℤ pos 32767 → IsTrue (is_coordinate (to_z w64 (of_z w64 z)))
coordinate_64 z low high =
    let P : ℤ → Type 0 = λ y. is_coordinate y ≡ true in subst P (sym (same_in_64 z low high)) (is_one z low high)

-- the lower and the upper bound are coordinates
pub lower : (low high : ℤ) → IsAxis low high → IsTrue (is_coordinate (to_z w64 (of_z w64 low)))
lower low high a = coordinate_64 low a.least (le_trans low high _ a.order a.greatest)

pub upper : (low high : ℤ) → IsAxis low high → IsTrue (is_coordinate (to_z w64 (of_z w64 high)))
upper low high a = coordinate_64 high (le_trans _ low high a.least a.order) a.greatest

-- a bound is the same in 16 bits
same_in_16 : (z : ℤ) → negsuc 32767 ≤ℤ z → z ≤ℤ pos 32767 → to_z w16 (of_z w16 z) ≡ z
same_in_16 z low high = omega (arith, ints)

-- the bounds stand in order where they are converted
pub in_order : (low high a b : ℤ) → IsAxis low high → a ≡ to_z w64 (of_z w64 low) → b ≡ to_z w64 (of_z w64 high) → to_z w16 (of_z w16 a) ≤ℤ to_z w16 (of_z w16 b)
in_order low high a b h e f =
    let l = le_trans low high _ h.order h.greatest in
    let g = le_trans _ low high h.least h.order in
    let P : ℤ → Type 0 = λ z. to_z w16 (of_z w16 z) ≤ℤ to_z w16 (of_z w16 b) in
    let Q : ℤ → Type 0 = λ z. to_z w16 (of_z w16 low) ≤ℤ to_z w16 (of_z w16 z) in
    let X : ℤ → Type 0 = λ z. z ≤ℤ to_z w16 (of_z w16 high) in
    let Y : ℤ → Type 0 = λ z. low ≤ℤ z in
    let o : to_z w16 (of_z w16 low) ≤ℤ to_z w16 (of_z w16 high) = subst X (sym (same_in_16 low h.least l)) (subst Y (sym (same_in_16 high g h.greatest)) h.order) in
    subst P (sym (e ∙ same_in_64 low h.least l)) (subst Q (sym (f ∙ same_in_64 high g h.greatest)) o)

-- the rectangle of bounds in order is made
pub some_rect : (o : Option Rectangle) (v : Rectangle) → SomeIff o (IsOrdered v) v → IsOrdered v → IsSome o
some_rect None v s h = absurd (s h)
some_rect (Some x) v s h = search rules

-- how many columns or rows lie between bounds, in 32 bits
pub spread_32 : (a b : ℤ) → IsAxis a b → to_z w32 (of_z w32 (to_z w64 (of_z w64 (to_z w64 (of_z w64 (to_z w64 (of_z w64 b) -ℤ to_z w64 (of_z w64 a))) +ℤ pos 1)))) ≡ (b -ℤ a) +ℤ pos 1
spread_32 a b h = go a b h.least h.order h.greatest
  where
    go : (a b : ℤ) → negsuc 32767 ≤ℤ a → a ≤ℤ b → b ≤ℤ pos 32767 → to_z w32 (of_z w32 (to_z w64 (of_z w64 (to_z w64 (of_z w64 (to_z w64 (of_z w64 b) -ℤ to_z w64 (of_z w64 a))) +ℤ pos 1)))) ≡ (b -ℤ a) +ℤ pos 1
    go a b low mid high = omega (arith, ints)
