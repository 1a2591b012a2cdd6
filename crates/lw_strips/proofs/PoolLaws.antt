-- The numbers of strips in a pool.
use Rattle.std.proofs.Common.{◌≡◌, ◌↔◌, ℕ, ◌+◌, ◌<◌, ◌≤◌, true, if◌then◌else◌, List, [], ◌∷◌, ◌++◌, reverse, length, get_or, take, Option, Some, None, IfSome, IsNone, ◌∙◌, sym, refl, ap, arith}
use Rattle.std.specs.List.{remove, count_by, sum_by}
use Rattle.std.proofs.lemmas.Bool.{and_parts, and_from}
use Rattle.std.proofs.lemmas.List.{get_or_default, reverse-append}
use Rattle.std.proofs.lemmas.List.Sums.{sum_by-cons, sum_by-append, sum_by-remove, sum_by-take-le, sum_by_more, sum_by_push, get_or-le-sum_by}
use Rattle.lw_region.specs.Rectangle.{Rectangle}
use Rattle.lw_region.proofs.Numbers.{eq_true, eq_of}
use Rattle.lw_region.proofs.Meet.{same_bounds}
use Rattle.lw_planes.specs.Row.{bit_of}
use Rattle.lw_strips.specs.Strips.{StripView}
use Rattle.lw_strips.specs.Pools.{PoolView, same_rectangle, copies, copies_in, IsClaimed, HasNoOther, IsPlaceOf}
use Rattle.lw_strips.specs.Exchange.{CountingLaw}

-- rectangles with the same bounds are one
pub same_is : (a b : Rectangle) → same_rectangle a b ≡ true → a ≡ b
unfolding same_rectangle
same_is a b is =
    let p = and_parts _ _ is in
    let q = and_parts _ _ p.1 in
    let r = and_parts _ _ q.1 in
    same_bounds a.min_x a.min_y a.max_x a.max_y b.min_x b.min_y b.max_x b.max_y (eq_of _ _ p.0) (eq_of _ _ q.0) (eq_of _ _ r.0) (eq_of _ _ r.1)

pub same_self : (a : Rectangle) → same_rectangle a a ≡ true
unfolding same_rectangle
same_self a = and_from _ _ (eq_true a.min_x a.min_x refl) (and_from _ _ (eq_true a.min_y a.min_y refl) (and_from _ _ (eq_true a.max_x a.max_x refl) (eq_true a.max_y a.max_y refl)))

-- one strip of a rectangle, counted
abbrev one_of : Rectangle → StripView → ℕ
one_of r s = bit_of (same_rectangle r s.rect)

-- a claimed strip is one less
pub claimed_count : (r q : Rectangle) (s : StripView) (old new : PoolView) → IsClaimed q s old new → copies_in r old.strips ≡ copies_in r new.strips + (if same_rectangle r q then 1 else 0)
claimed_count r q s old new is =
    let left = sum_by-remove (one_of r) old.strips is.place s is.inside in
    let one : one_of r (get_or old.strips is.place s) ≡ bit_of (same_rectangle r q) = ap (one_of r) (sym is.strip) ∙ ap (λ p. bit_of (same_rectangle r p)) is.rect in
    let rest : copies_in r new.strips ≡ sum_by (one_of r) (remove old.strips is.place) = ap (copies_in r) is.others in
    sym left ∙ (ap (λ n. sum_by (one_of r) (remove old.strips is.place) + n) one ∙ ap (λ n. n + bit_of (same_rectangle r q)) (sym rest))

-- a list turned round has the same numbers
reverse_count : (r : Rectangle) (strips : List StripView) → copies_in r (reverse strips) ≡ copies_in r strips
reverse_count r [] = refl
reverse_count r (s ∷ rest) =
    let last = sum_by_push (one_of r) (reverse rest) s in
    let first = sum_by-cons (one_of r) s rest in
    let others = reverse_count r rest in
    ap (copies_in r) (reverse-append (s ∷ []) rest) ∙ omega (arith, last, first, others)

given_count : (r : Rectangle) (old given : List StripView) → copies_in r (old ++ reverse given) ≡ copies_in r old + copies_in r given
given_count r old given = sum_by-append (one_of r) old (reverse given) ∙ ap (λ n. copies_in r old + n) (reverse_count r given)

-- without a strip of any rectangle there is none
none_left : (strips : List StripView) → ((r : Rectangle) → copies_in r strips ≡ 0) → strips ≡ []
none_left [] none = refl
none_left (s ∷ rest) none =
    let whole = sum_by-cons (one_of s.rect) s rest in
    let one : one_of s.rect s ≡ 1 = ap (λ t. bit_of t) (same_self s.rect) in
    let empty = none s.rect in
    absurd (omega (arith, whole, one, empty))

pub counting : CountingLaw
counting = record { given = given_count; claimed = claimed_count; empty = none_left }

-- the place that was found has the rectangle
pub place_found : (r : Rectangle) (place : ℕ) (strips : List StripView) (s : StripView) → place < length strips → s ≡ get_or strips place s → same_rectangle r s.rect ≡ true → IsPlaceOf r place strips
place_found r place strips s inside is same = record {
  inside = inside;
  rect = λ d. ap (λ (q : StripView). q.rect) (get_or_default strips place d s inside ∙ sym is) ∙ sym (same_is r s.rect same);
}

-- at such a place the rectangle is counted
pub place_counted : (r : Rectangle) (place : ℕ) (strips : List StripView) → IsPlaceOf r place strips → 0 < copies_in r strips
place_counted r place [] at = absurd (omega (arith, at.inside))
place_counted r place (s ∷ rest) at =
    let one : one_of r (get_or (s ∷ rest) place s) ≡ 1 = ap (λ q. bit_of (same_rectangle r q)) (at.rect s) ∙ ap (λ t. bit_of t) (same_self r) in
    let least = get_or-le-sum_by (one_of r) (s ∷ rest) place s at.inside in
    omega (arith, one, least)

-- the strips that a claim leaves were there before
pub claimed_others : (q : Rectangle) (s : StripView) (old new : PoolView) → IsClaimed q s old new → HasNoOther old new
claimed_others q s old new is test =
    let all = sum_by-remove (λ t. bit_of (test t)) old.strips is.place s is.inside in
    let left : count_by test new.strips ≡ sum_by (λ t. bit_of (test t)) (remove old.strips is.place) = ap (count_by test) is.others in
    omega (arith, all, left)

pub no_other_twice : (old mid new : PoolView) → HasNoOther old mid → HasNoOther mid new → HasNoOther old new
no_other_twice old mid new first second test =
    let left = first test in
    let right = second test in
    omega (arith, left, right)

-- a claim of a rectangle of which there is a strip takes one
pub claim_made : (o : Option StripView) (q : Rectangle) (old new : PoolView) → IfSome o (λ s. IsClaimed q s old new) → (IsNone o ↔ (copies_in q old.strips ≡ 0)) → 0 < copies_in q old.strips
    → (s : StripView) × IsClaimed q s old new
claim_made None q old new claimed none some = let zero_of = none.0 refl in absurd (omega (arith, zero_of))
claim_made (Some s) q old new claimed none some = (s, claimed)

-- of the rectangles still to come each is one more
copies_more : (r : Rectangle) (rects : List Rectangle) (k : ℕ) (q : Rectangle) → k < length rects → q ≡ get_or rects k q → copies r (take (k + 1) rects) ≡ copies r (take k rects) + bit_of (same_rectangle r q)
copies_more r rects k q inside is = sum_by_more (λ p. bit_of (same_rectangle r p)) rects k q inside ∙ ap (λ p. copies r (take k rects) + bit_of (same_rectangle r p)) (sym is)

-- the next rectangle has a strip in the pool still
pub next_there : (rects : List Rectangle) (k : ℕ) (q : Rectangle) (first old : List StripView) → k < length rects → q ≡ get_or rects k q
    → copies q rects ≤ copies_in q first → copies_in q first ≡ copies_in q old + copies q (take k rects) → 0 < copies_in q old
next_there rects k q first old inside is enough so_far =
    let more = copies_more q rects k q inside is in
    let one : bit_of (same_rectangle q q) ≡ 1 = ap (λ t. bit_of t) (same_self q) in
    let most = sum_by-take-le (λ p. bit_of (same_rectangle q p)) rects (k + 1) in
    omega (arith, more, one, most, enough, so_far)

-- one claim more
pub claimed_more : (r : Rectangle) (rects : List Rectangle) (k : ℕ) (q : Rectangle) (first old new : List StripView) → k < length rects → q ≡ get_or rects k q
    → copies_in r first ≡ copies_in r old + copies r (take k rects) → copies_in r old ≡ copies_in r new + bit_of (same_rectangle r q)
    → copies_in r first ≡ copies_in r new + copies r (take (k + 1) rects)
claimed_more r rects k q first old new inside is so_far step =
    let more = copies_more r rects k q inside is in
    omega (arith, more, so_far, step)
