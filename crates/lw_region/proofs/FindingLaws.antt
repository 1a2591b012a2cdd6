-- What a binary search along a row of a canonical list finds.
use Rattle.std.proofs.Common.{◌≡◌, ℕ, zero, suc, ◌<◌, ◌≤◌, ◌≢◌, true, false, ◌||◌, Option, Some, None, List, [], ◌∷◌, length, get_or, ℤ, pos, ◌+ℤ◌, ◌≤ℤ◌, ◌<ℤ◌, Bor, inl, inr, ap, sym, subst, ◌∙◌, arith}
use Rattle.std.specs.Prelude.{MatchOption}
use Rattle.std.specs.Int.{int_max}
use Rattle.std.specs.List.{AllPairs, HoldsAt}
use Rattle.std.specs.List.Sorted.{IsPartitionedBy, IsPartitionPoint}
use Rattle.std.proofs.lemmas.Int.{ints, by_lt_z, clamps}
use Rattle.std.proofs.lemmas.Bool.{false≢true, or_from, and_parts, and_from, and_left, and_right, cases_lt}
use Rattle.lw_region.specs.Rectangle.{Rectangle, IsOrdered, within, has_pixel}
use Rattle.lw_region.specs.Bands.{covers}
use Rattle.lw_region.specs.Banded.{IsCanonical}
use Rattle.lw_region.specs.Finding.{RunsTo, BeginsAt, is_before, IsNextRect}
use Rattle.lw_region.proofs.Within.{within_true, within_below, within_above, within_low, within_high}
use Rattle.std.proofs.Math.Bool.{or-false}
use Rattle.lw_region.proofs.Canonical.{covers_nil, covers_cons}
use Rattle.lw_region.proofs.Spaced.{IsBehind, canonical_spaced}
use Rattle.lw_region.proofs.Disjoint.{behind_lacks}

-- a rectangle above the row, and one of the row left of the column
above_before : (r : Rectangle) (x y : ℤ) → r.max_y <ℤ y → is_before x y r ≡ true
above_before r x y a = grind (arith, ints)

left_before : (r : Rectangle) (x y : ℤ) → r.min_y ≤ℤ y → r.max_x <ℤ x → is_before x y r ≡ true
left_before r x y a b = grind (arith, ints)

-- which of the two a rectangle before a place is
before_left : (r : Rectangle) (x y : ℤ) → is_before x y r ≡ true → y ≤ℤ r.max_y → (r.min_y ≤ℤ y) × (r.max_x <ℤ x)
before_left r x y h a = (grind (arith, ints), grind (arith, ints))

-- what is not before a place is not above its row
not_above : (r : Rectangle) (x y : ℤ) → is_before x y r ≡ false → y ≤ℤ r.max_y
not_above r x y h = by_lt_z r.max_y y (λ a. absurd (false≢true (sym h ∙ above_before r x y a))) (λ a. a)

-- and where it has begun by that row, not left of its column
not_left : (r : Rectangle) (x y : ℤ) → is_before x y r ≡ false → r.min_y ≤ℤ y → x ≤ℤ r.max_x
not_left r x y h b = by_lt_z r.max_x x (λ a. absurd (false≢true (sym h ∙ left_before r x y b a))) (λ a. a)

-- what is before a place has none of the row from there on
before_lacks : (r : Rectangle) (x y u : ℤ) → is_before x y r ≡ true → x ≤ℤ u → has_pixel r u y ≡ false
unfolding within
before_lacks r x y u h a = grind (arith, ints)

-- what is after a rectangle below the row does not have the row
under_lacks : (r s : Rectangle) (x y : ℤ) → IsBehind r s → y <ℤ r.min_y → has_pixel s x y ≡ false
under_lacks r s x y h a =
    let t = h.top in
    and_right (within s.min_x x s.max_x) (within s.min_y y s.max_y) (within_below s.min_y y s.max_y (omega (arith, ints)))

-- what is in front of a rectangle before a place is before it too
behind_before : (r s : Rectangle) (x y : ℤ) → IsBehind r s → is_before x y s ≡ true → is_before x y r ≡ true
behind_before r s x y h b =
    by_lt_z r.max_y y (above_before r x y) (λ a.
    let p = before_left s x y b (omega (arith, ints)) in
    let q = h.gap (omega (arith, ints)) in
    left_before r x y (omega (arith, ints)) (omega (arith, ints)))

-- so a binary search finds the first that is not before it
pub spaced_partitioned : (rects : List Rectangle) (x y : ℤ) → AllPairs IsBehind rects → IsPartitionedBy (is_before x y) rects
spaced_partitioned rects x y h i j d l m b =
    elim (cases_lt i j) [
      | inl p ↦ behind_before (get_or rects i d) (get_or rects j d) x y (h i j d p m) b
      | inr p ↦ let e : j ≡ i = omega arith in rw e at b
    ]

-- a list has no pixel that none of its rectangles has
pub covers_none : (rs : List Rectangle) (d : Rectangle) (x y : ℤ) → ((k : ℕ) → k < length rs → has_pixel (get_or rs k d) x y ≡ false) → covers rs x y ≡ false
covers_none [] d x y h = covers_nil x y
covers_none (r ∷ rs) d x y h =
    covers_cons r rs x y ∙ or_from _ _ (h zero (omega arith)) (covers_none rs d x y (λ k l. h (suc k) (omega arith)))

-- of a pixel that one rectangle alone may have, that rectangle tells
covers_at : (rs : List Rectangle) (n : ℕ) (d : Rectangle) (x y : ℤ) → n < length rs
    → ((k : ℕ) → k < length rs → k ≢ n → has_pixel (get_or rs k d) x y ≡ false) → covers rs x y ≡ has_pixel (get_or rs n d) x y
covers_at [] n d x y l h = absurd (omega arith)
covers_at (r ∷ rs) zero d x y l h =
    covers_cons r rs x y
    ∙ (ap (λ w. has_pixel r x y || w) (covers_none rs d x y (λ k m. h (suc k) (omega arith) (omega arith))) ∙ or-false (has_pixel r x y))
covers_at (r ∷ rs) (suc n) d x y l h =
    covers_cons r rs x y
    ∙ (ap (λ w. w || covers rs x y) (h zero (omega arith) (omega arith)) ∙ covers_at rs n d x y (omega arith) (λ k m e. h (suc k) (omega arith) (omega arith)))

-- where the rectangles before a place end, the next one tells of the row from there on
next_at : (rects : List Rectangle) (x y : ℤ) (i : ℕ) (d : Rectangle) → AllPairs IsBehind rects → i < length rects
    → IsPartitionPoint (λ r. is_before x y r ≡ true) (λ r. is_before x y r ≡ false) rects i → IsNextRect rects x y (get_or rects i d)
next_at rects x y i d h l p =
    let r = get_or rects i d in
    let after = p.1 i d (omega arith) l in
    let row = not_above r x y after in
    let tells : (u : ℤ) → x ≤ℤ u → ((k : ℕ) → i < k → k < length rects → has_pixel (get_or rects k d) u y ≡ false) → covers rects u y ≡ has_pixel r u y =
    λ u a q. covers_at rects i d u y l (λ k m e.
    elim (cases_lt k i) [ inl b ↦ before_lacks (get_or rects k d) x y u (p.0 k d (omega arith) b) a | inr b ↦ q k (omega arith) m ]) in
    record {
      row = row;
      column = not_left r x y after;
      same = λ u a b. tells u a (λ k m n. behind_lacks r (get_or rects k d) u y (h i k d m n) row b);
      over = λ b u a. tells u a (λ k m n. under_lacks r (get_or rects k d) u y (h i k d m n) b)
          ∙ and_right (within r.min_x u r.max_x) (within r.min_y y r.max_y) (within_below r.min_y y r.max_y b);
    }

-- what the search hands back
pub next_found : (rects all : List Rectangle) (x y : ℤ) (i : ℕ) (o : Option (Bor Rectangle)) → rects ≡ all → IsCanonical all
    → IsPartitionPoint (λ r. is_before x y r ≡ true) (λ r. is_before x y r ≡ false) rects i
    → MatchOption o (length rects ≤ i) (λ r. (i < length rects) × HoldsAt (λ s. r.now ≡ s) rects i)
    → MatchOption o ((u : ℤ) → x ≤ℤ u → covers all u y ≡ false) (λ r. IsNextRect all x y r.now)
next_found rects all x y i None e h p l =
    let P : List Rectangle → Type 0 = λ s. (u : ℤ) → x ≤ℤ u → covers s u y ≡ false in
    subst P e (λ u a. covers_none rects (record { min_x = x; min_y = y; max_x = x; max_y = y }) u y (λ k m. before_lacks _ x y u (p.0 k _ (omega arith) (omega arith)) a))
next_found rects all x y i (Some r) e h p l =
    let P : List Rectangle → Type 0 = λ s. IsNextRect s x y r.now in
    subst P e (subst (IsNextRect rects x y) (sym (l.1 r.now)) (next_at rects x y i r.now (rw (sym e) at (canonical_spaced all h)) l.0 p))

-- the run of columns that the next rectangle has, where it has the place
pub next_runs : (rects : List Rectangle) (x y : ℤ) (r : Rectangle) → IsNextRect rects x y r → has_pixel r x y ≡ true → RunsTo rects x y r.max_x
next_runs rects x y r n h =
    let p = and_parts (within r.min_x x r.max_x) (within r.min_y y r.max_y) h in
    let a = within_low r.min_x x r.max_x p.0 in
    let b = within_high r.min_x x r.max_x p.0 in
    record {
      reaches = b;
      covered = λ u c e.
          n.same u c (omega (arith, ints)) ∙ and_from _ _ (within_true r.min_x u r.max_x (omega (arith, ints)) e) p.1;
      ended = n.same (r.max_x +ℤ pos 1) (omega (arith, ints)) (omega (arith, ints))
          ∙ and_left _ _ (within_above r.min_x (r.max_x +ℤ pos 1) r.max_x (omega (arith, ints)));
    }

-- the next rectangle begins where the list does, if it has the row
pub next_begins : (rects : List Rectangle) (x y : ℤ) (r : Rectangle) → IsNextRect rects x y r → IsOrdered r → r.min_y ≤ℤ y
    → BeginsAt rects x y (int_max x r.min_x)
next_begins rects x y r n o a =
    let b = n.column a in
    let k = o.columns in
    record {
      reaches = omega (arith, ints, clamps);
      covered = n.same (int_max x r.min_x) (omega (arith, ints, clamps)) (omega (arith, ints, clamps))
          ∙ and_from _ _ (within_true r.min_x (int_max x r.min_x) r.max_x (omega (arith, ints, clamps)) (omega (arith, ints, clamps))) (within_true r.min_y y r.max_y a n.row);
      free = λ u c e.
          n.same u c (omega (arith, ints, clamps)) ∙ and_left _ _ (within_below r.min_x u r.max_x (omega (arith, ints, clamps)));
    }
