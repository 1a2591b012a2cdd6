-- What a row of pixels and a rectangle have in common.
use Rattle.std.proofs.Common.{◌≡◌, ℕ, ◌+◌, ◌-◌, ◌<◌, ◌≤◌, min, true, false, ◌&&◌, inl, inr, ℤ, pos, ◌+ℤ◌, ◌≤ℤ◌, ◌<ℤ◌, ap, sym, ◌∙◌, arith}
use Rattle.std.specs.Prelude.{int_lt}
use Rattle.std.proofs.lemmas.Int.{ints, by_lt_z}
use Rattle.std.proofs.lemmas.Bool.{and_left, and_right, cases_lt}
use Rattle.std.proofs.lemmas.Bool.Decides.{nat_tests}
use Rattle.std.proofs.Math.Bool.{and_comm}
use Rattle.lw_region.specs.Rectangle.{Rectangle, within, has_pixel}
use Rattle.lw_region.proofs.Within.{within_true, within_below, within_above}
use Rattle.lw_kernels.specs.Kernel.{is_between}
use Rattle.lw_buffers.specs.Shared.{IsDistance, IsShared}

-- less than the distance does not reach the place
not_reached : (from to : ℤ) (n i : ℕ) → IsDistance from to n → i < n → (from +ℤ pos i) <ℤ to
not_reached from to n i h l =
    by_lt_z from to
    (λ a. let e = h.behind (omega (arith, ints)) in omega (arith, ints))
    (λ a. let e = h.before a in absurd (omega arith))

-- the distance and more reaches it
reached : (from to : ℤ) (n i : ℕ) → IsDistance from to n → n ≤ i → to ≤ℤ (from +ℤ pos i)
reached from to n i h l =
    by_lt_z from to (λ a. let e = h.behind (omega (arith, ints)) in omega (arith, ints)) (λ a. omega (arith, ints))

-- the columns of a row from x on, of which there are n, that lie between two bounds
between_columns : (left right x : ℤ) (bit last end n i : ℕ) → IsDistance x left bit → IsDistance x (right +ℤ pos 1) last → end ≡ min last n → i < n
    → within left (x +ℤ pos i) right ≡ is_between bit end i
between_columns left right x bit last end n i h k e l =
    elim (cases_lt i bit) [
      | inl a ↦ let p = not_reached x left bit i h a in
          let q : is_between bit end i ≡ false = grind (arith, nat_tests) in
          within_below left (x +ℤ pos i) right p ∙ sym q
      | inr a ↦ elim (cases_lt i last) [
        | inl b ↦ let p = reached x left bit i h a in
            let q = not_reached x (right +ℤ pos 1) last i k b in
            let m : i < end = omega arith in
            let t : is_between bit end i ≡ true = grind (arith, nat_tests) in
            within_true left (x +ℤ pos i) right p (omega (arith, ints)) ∙ sym t
        | inr b ↦ let p = reached x (right +ℤ pos 1) last i k b in
            let m : end ≤ i = omega arith in
            let t : is_between bit end i ≡ false = grind (arith, nat_tests) in
            within_above left (x +ℤ pos i) right (omega (arith, ints)) ∙ sym t
      ]
    ]

-- a rectangle has nothing of a row above it
pub lacks_above : (r : Rectangle) (x y : ℤ) → y <ℤ r.min_y → has_pixel r x y ≡ false
lacks_above r x y a = and_right (within r.min_x x r.max_x) (within r.min_y y r.max_y) (within_below r.min_y y r.max_y a)

-- nor of one below it
pub lacks_below : (r : Rectangle) (x y : ℤ) → r.max_y <ℤ y → has_pixel r x y ≡ false
lacks_below r x y a = and_right (within r.min_x x r.max_x) (within r.min_y y r.max_y) (within_above r.min_y y r.max_y a)

-- nor of columns that end before it begins
pub lacks_columns : (r : Rectangle) (x y : ℤ) (bit last end n : ℕ) → IsDistance x r.min_x bit → IsDistance x (r.max_x +ℤ pos 1) last → end ≡ min last n → end ≤ bit
    → (i : ℕ) → i < n → has_pixel r (x +ℤ pos i) y ≡ false
lacks_columns r x y bit last end n h k e l i m =
    let t : is_between bit end i ≡ false = grind (arith, nat_tests) in
    and_left _ (within r.min_y y r.max_y) (between_columns r.min_x r.max_x x bit last end n i h k e m ∙ t)

-- what the strict test says where it fails
pub not_less : (a b : ℤ) → int_lt a b ≡ false → b ≤ℤ a
not_less a b h = grind (arith, ints)

-- what it has of the others
pub part_shared : (r : Rectangle) (x y : ℤ) (bit line column last end n : ℕ) → r.min_y ≤ℤ y → y ≤ℤ r.max_y
    → IsDistance x r.min_x bit → IsDistance r.min_y y line → IsDistance r.min_x x column → IsDistance x (r.max_x +ℤ pos 1) last → end ≡ min last n → bit < end
    → IsShared r x y n (record { bit = bit; line = line; column = column; count = end - bit })
part_shared r x y bit line column last end n a b h v w k e l =
    let across : x +ℤ pos bit ≡ r.min_x +ℤ pos column =
    by_lt_z x r.min_x
    (λ p. let f = h.behind (omega (arith, ints)) in let g = w.before (omega (arith, ints)) in omega (arith, ints))
    (λ p. let f = h.before p in let g = w.behind p in omega (arith, ints)) in
    let ends : x +ℤ pos last ≡ r.max_x +ℤ pos 1 =
    by_lt_z x (r.max_x +ℤ pos 1) (λ p. k.behind (omega (arith, ints))) (λ p. let f = k.before p in absurd (omega arith)) in
    let rows : within r.min_y y r.max_y ≡ true = within_true r.min_y y r.max_y a b in
    record {
      inside = omega arith;
      across = across;
      right = omega (arith, ints);
      down = sym (v.behind a);
      bottom = b;
      pixels = λ i m.
          let columns = within r.min_x (x +ℤ pos i) r.max_x in
          let named : end ≡ bit + (end - bit) = omega arith in
          and_comm columns (within r.min_y y r.max_y) ∙ (ap (λ w. w && columns) rows
          ∙ (between_columns r.min_x r.max_x x bit last end n i h k e m ∙ ap (λ w. is_between bit w i) named));
    }
