-- Sums over owners of what each loses or gains.
use Rattle.std.proofs.Common.{◌≡◌, ℕ, zero, suc, ◌+◌, ◌<◌, ◌≤◌, ◌==◌, Bool, true, false, ◌&&◌, cond, List, [], ◌∷◌, map, ◌∙◌, sym, refl, ap, inl, inr, arith}
use Rattle.std.specs.List.{All, count_by, filter}
use Rattle.std.proofs.lemmas.Bool.{cases_lt}
use Rattle.std.proofs.lemmas.Bool.Decides.{nat_tests}
use Rattle.std.proofs.lemmas.List.Elements.{All-head, All-tail}
use Rattle.std.proofs.lemmas.List.Sums.{sum_by-cons}
use Rattle.lw_region.specs.Rectangle.{Rectangle}
use Rattle.lw_planes.specs.Row.{bit_of}
use Rattle.lw_strips.specs.Pools.{same_rectangle, copies}
use Rattle.lw_strips.specs.Exchange.{total, ExchangeLaw}
use Rattle.lw_strips.specs.declared.piece.Piece.{Piece}

total_same : (n : ℕ) (f g : ℕ → ℕ) → ((i : ℕ) → f i ≡ g i) → total n f ≡ total n g
total_same zero f g same = refl
total_same (suc n) f g same = let rest = total_same n f g same in let last = same n in omega arith

total_plus : (n : ℕ) (f g : ℕ → ℕ) → total n (λ i. f i + g i) ≡ total n f + total n g
total_plus zero f g = refl
total_plus (suc n) f g = let rest = total_plus n f g in omega arith

total_none : (n : ℕ) → total n (λ _. 0) ≡ 0
total_none zero = refl
total_none (suc n) = let rest = total_none n in omega arith

-- what one owner has, and no owner below n
total_past : (n a : ℕ) (t : Bool) → n ≤ a → total n (λ i. bit_of (a == i && t)) ≡ 0
total_past zero a t past = refl
total_past (suc n) a t past =
    let rest = total_past n a t (omega arith) in
    let last : bit_of (a == n && t) ≡ 0 = ap (λ u. bit_of (u && t)) (other_owner a n (omega arith)) in
    omega (arith, rest, last)
  where
    other_owner : (a n : ℕ) → n < a → (a == n) ≡ false
    other_owner a n above = grind (arith, nat_tests)

total_one : (n a : ℕ) (t : Bool) → a < n → total n (λ i. bit_of (a == i && t)) ≡ bit_of t
total_one zero a t below = absurd (omega arith)
total_one (suc n) a t below =
    elim (cases_lt a n) [
      | inl less ↦ let rest = total_one n a t less in
          let last : bit_of (a == n && t) ≡ 0 = ap (λ u. bit_of (u && t)) (other_owner a n less) in
          omega (arith, rest, last)
      | inr most ↦ let rest = total_past n a t most in
          let last : bit_of (a == n && t) ≡ bit_of t = ap (λ u. bit_of (u && t)) (this_owner a n (omega arith)) in
          omega (arith, rest, last)
    ]
  where
    other_owner : (a n : ℕ) → a < n → (a == n) ≡ false
    other_owner a n below = grind (arith, nat_tests)

    this_owner : (a n : ℕ) → a ≡ n → (a == n) ≡ true
    this_owner a n is = grind (arith, nat_tests)

-- whatever each piece has for its owner
owner_total : (owner : Piece → ℕ) (test : Piece → Bool) (pieces : List Piece) (n : ℕ) → All (λ p. owner p < n) pieces
    → total n (λ i. count_by (λ p. owner p == i && test p) pieces) ≡ count_by test pieces
owner_total owner test [] n below = total_none n
owner_total owner test (p ∷ rest) n below =
    total_same n _ (λ i. bit_of (owner p == i && test p) + count_by (λ q. owner q == i && test q) rest) (λ i. sum_by-cons (λ q. bit_of (owner q == i && test q)) p rest)
    ∙ (total_plus n (λ i. bit_of (owner p == i && test p)) (λ i. count_by (λ q. owner q == i && test q) rest)
    ∙ (ap (λ k. k + total n (λ i. count_by (λ q. owner q == i && test q) rest)) (total_one n (owner p) (test p) (All-head (λ q. owner q < n) p rest below))
    ∙ (ap (λ k. bit_of (test p) + k) (owner_total owner test rest n (All-tail (λ q. owner q < n) p rest below))
    ∙ sym (sum_by-cons (λ q. bit_of (test q)) p rest))))

-- the rectangles of the pieces that pass a test, counted
rects_step : (r : Rectangle) (t : Bool) (p : Piece) (left : List Piece) (n : ℕ) → copies r (map (λ q. q.rect) left) ≡ n
    → copies r (map (λ q. q.rect) (cond t (p ∷ left) left)) ≡ bit_of (t && same_rectangle r p.rect) + n
rects_step r true p left n is = sum_by-cons (λ q. bit_of (same_rectangle r q)) p.rect (map (λ q. q.rect) left) ∙ ap (λ m. bit_of (same_rectangle r p.rect) + m) is
rects_step r false p left n is = let same : n ≡ 0 + n = omega arith in is ∙ same

rects_counted : (r : Rectangle) (test : Piece → Bool) (pieces : List Piece)
    → copies r (map (λ p. p.rect) (filter test pieces)) ≡ count_by (λ p. test p && same_rectangle r p.rect) pieces
rects_counted r test [] = refl
rects_counted r test (p ∷ rest) =
    rects_step r (test p) p (filter test rest) (count_by (λ q. test q && same_rectangle r q.rect) rest) (rects_counted r test rest)
    ∙ sym (sum_by-cons (λ q. bit_of (test q && same_rectangle r q.rect)) p rest)

pub exchange : ExchangeLaw
exchange = record {
  losses = λ pieces n r below. owner_total (λ p. p.from) (λ p. same_rectangle r p.rect) pieces n below;
  gains = λ pieces n r below. owner_total (λ p. p.to) (λ p. same_rectangle r p.rect) pieces n below;
  lost = λ r owner pieces. rects_counted r (λ p. p.from == owner) pieces;
  gained = λ r owner pieces. rects_counted r (λ p. p.to == owner) pieces;
}
