-- The list of layers, whose slots are those with bounds.
use Rattle.std.proofs.Common.{◌≡◌, ℕ, ◌<◌, ◌==◌, Bool, true, false, List, Result, Ok, Err, IfOk, refl, sym, subst, arith}
use Rattle.std.specs.List.{All}
use Rattle.std.proofs.lemmas.Bool.{eqb-true}
use Rattle.lw_calls.specs.Orders.{occurrences}
use Rattle.lw_machine.specs.Arrangement.{without}
use Rattle.lw_machine.proofs.ListSound.{occurrences_without_same, occurrences_without_other}
use Rattle.lw_stack.specs.Stack.{Stack, IsStack}
use Rattle.lw_stack.proofs.ListLaws.{all_entries, listed_has_bounds, bounded_is_slot}

-- a slot that stands in the list is one of those that there are
pub listed_is_slot : (v : Stack) → IsStack v → (s : ℕ) → 0 < occurrences s v.front_to_back → s < v.sizes.slots
listed_is_slot v ok s stands =
    bounded_is_slot v ok s (listed_has_bounds v ok s stands)

-- numbers below another, along equations
pub below_along : (l l' : List ℕ) (n n' : ℕ) → l' ≡ l → n' ≡ n → All (λ s. s < n) l → All (λ s. s < n') l'
below_along l l' n n' e f all =
    subst (λ (m : ℕ). All (λ s. s < m) l') (sym f) (subst (λ (k : List ℕ). All (λ s. s < n) k) (sym e) all)

-- what stands in a list without a slot stands in the list
pub stands_without : (s t : ℕ) (us : List ℕ) → 0 < occurrences t (without s us) → 0 < occurrences t us
stands_without s t us stands = by_test (s == t) refl
  where
    by_test : (b : Bool) → (s == t) ≡ b → 0 < occurrences t us
    by_test true e =
        let same : s ≡ t = eqb-true s t e in
        let none : occurrences t (without s us) ≡ 0 =
        subst (λ (n : ℕ). occurrences n (without s us) ≡ 0) same (occurrences_without_same s us) in
        absurd (omega (arith, none))
    by_test false e = let same = occurrences_without_other s t us e in omega (arith, same)

pub rest_are_slots : (v : Stack) (s : ℕ) → IsStack v → All (λ t. t < v.sizes.slots) (without s v.front_to_back)
rest_are_slots v s ok =
    all_entries (λ t. t < v.sizes.slots) (without s v.front_to_back)
    (λ t stands. listed_is_slot v ok t (stands_without s t v.front_to_back stands))

-- so a list that was made so has entries that are such
pub made_with : {X E : Type 0} (P : ℕ → Type 0) (items : X → List ℕ) (o : Result X E) (l : List ℕ) → All P l
    → IfOk o (λ v. items v ≡ l) → IfOk o (λ v. All P (items v))
made_with P items (Ok v) l all h = subst (λ (m : List ℕ). All P m) (sym h) all
made_with P items (Err e) l all h = tt
