-- The first element of two joined lists that passes a test.
use Rattle.std.proofs.Common.{◌≡◌, ℕ, zero, suc, ◌+◌, ◌<◌, ◌≤◌, Bool, true, false, cond, nat_lt, List, [], ◌∷◌, ◌++◌, length, get_or, Some, None, ◌∙◌, sym, refl, ap, zero-add, arith, length-append}
use Rattle.std.specs.List.{position, position_or_len}
use Rattle.std.proofs.lemmas.Bool.Decides.{nat_tests}

-- one element more, by whether it passes
first_step : {X : Type 0} (p : X → Bool) (xs ys : List X) (t : Bool) (x : X) → p x ≡ t → position_or_len p (xs ++ ys) ≡ cond (nat_lt (position_or_len p xs) (length xs)) (position_or_len p xs) (length xs + position_or_len p ys) → position_or_len p (x ∷ (xs ++ ys)) ≡ cond (nat_lt (position_or_len p (x ∷ xs)) (length (x ∷ xs))) (position_or_len p (x ∷ xs)) (length (x ∷ xs) + position_or_len p ys)
first_step p xs ys true x is h = rw is (grind (arith, nat_tests))
first_step p xs ys false x is h = rw is (grind (arith, nat_tests))

-- how many elements of two joined lists stand before the first that passes
pub first_of_both : {X : Type 0} (p : X → Bool) (xs ys : List X) → position_or_len p (xs ++ ys) ≡ cond (nat_lt (position_or_len p xs) (length xs)) (position_or_len p xs) (length xs + position_or_len p ys)
first_of_both p [] ys = sym (zero-add _)
first_of_both p (x ∷ xs) ys = first_step p xs ys (p x) x refl (first_of_both p xs ys)

-- it is in the first list
pub position_front : {X : Type 0} (p : X → Bool) (xs ys : List X) (n : ℕ) → position p xs ≡ Some n → position p (xs ++ ys) ≡ Some n
position_front p xs ys n is = let both = first_of_both p xs ys in let long = length-append xs ys in grind (arith, nat_tests)

-- it is in the second list
pub position_rest : {X : Type 0} (p : X → Bool) (xs ys : List X) (n : ℕ) → position p xs ≡ None → position p ys ≡ Some n → position p (xs ++ ys) ≡ Some (length xs + n)
position_rest p xs ys n none is = let both = first_of_both p xs ys in let long = length-append xs ys in grind (arith, nat_tests)

-- it is in neither
pub position_none : {X : Type 0} (p : X → Bool) (xs ys : List X) → position p xs ≡ None → position p ys ≡ None → position p (xs ++ ys) ≡ None
position_none p xs ys first second = let both = first_of_both p xs ys in let long = length-append xs ys in grind (arith, nat_tests)

-- an element that passes, before which none does, is the first
first_is : {X : Type 0} (p : X → Bool) (xs : List X) (n : ℕ) (d : X) → n < length xs → p (get_or xs n d) ≡ true → ((k : ℕ) → k < n → p (get_or xs k d) ≡ false) → position_or_len p xs ≡ n
first_is p [] n d inside passes before = absurd (omega arith)
first_is p (x ∷ xs) zero d inside passes before = rw passes refl
first_is p (x ∷ xs) (suc n) d inside passes before =
    let rest : position_or_len p xs ≡ n = first_is p xs n d (omega arith) passes (λ k h. before (suc k) (omega arith)) in
    let not_here : p x ≡ false = before 0 (omega arith) in
    rw not_here (ap (λ m. 1 + m) rest ∙ omega arith)

pub position_is : {X : Type 0} (p : X → Bool) (xs : List X) (n : ℕ) (d : X) → n < length xs → p (get_or xs n d) ≡ true → ((k : ℕ) → k < n → p (get_or xs k d) ≡ false) → position p xs ≡ Some n
position_is p xs n d inside passes before =
    let first : position_or_len p xs ≡ n = first_is p xs n d inside passes before in
    let test : nat_lt n (length xs) ≡ true = grind (arith, nat_tests) in
    rw (first, test) refl

-- no element passes where there is no first one
count_step : {X : Type 0} (p : X → Bool) (x : X) (xs : List X) (t : Bool) → p x ≡ t → suc (length xs) ≤ position_or_len p (x ∷ xs) → (p x ≡ false) × (length xs ≤ position_or_len p xs)
count_step p x xs true is all = let zero_len : position_or_len p (x ∷ xs) ≡ 0 = rw is refl in absurd (omega arith)
count_step p x xs false is all = let more : position_or_len p (x ∷ xs) ≡ 1 + position_or_len p xs = rw is refl in (is, omega arith)

count_all : {X : Type 0} (p : X → Bool) (xs : List X) (k : ℕ) (d : X) → length xs ≤ position_or_len p xs → k < length xs → p (get_or xs k d) ≡ false
count_all p [] k d all inside = absurd (omega arith)
count_all p (x ∷ xs) zero d all inside = (count_step p x xs (p x) refl all).0
count_all p (x ∷ xs) (suc k) d all inside = count_all p xs k d (count_step p x xs (p x) refl all).1 (omega arith)

pub none_passes : {X : Type 0} (p : X → Bool) (xs : List X) (k : ℕ) (d : X) → position p xs ≡ None → k < length xs → p (get_or xs k d) ≡ false
none_passes p xs k d none inside = count_all p xs k d (grind (arith, nat_tests)) inside
