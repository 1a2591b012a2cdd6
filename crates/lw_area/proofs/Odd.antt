-- Tests that hold of an odd number of elements.
use Rattle.std.proofs.Common.{◌≡◌, ℕ, suc, ◌%◌, ◌+◌, ◌==◌, Bool, true, false, cond, not, ◌&&◌, ◌||◌, List, [], ◌∷◌, ◌++◌, length, refl, ap, sym, ◌∙◌, arith}
use Rattle.std.specs.List.{filter, flat_map}
use Rattle.std.proofs.lemmas.Bool.Decides.{nat_tests}
use Rattle.lw_region.proofs.Edges.{differ}
use Rattle.lw_area.specs.Polygons.{holds_of_odd}

-- none is an even number
pub odd_nil : {A : Type 0} (test : A → Bool) → holds_of_odd test [] ≡ false
unfolding holds_of_odd
odd_nil test = refl

-- one more is odd where it was even
odd_more : (n : ℕ) → ((suc n % 2) == 1) ≡ not ((n % 2) == 1)
odd_more n = grind (arith, nat_tests)

-- a test that differs from true
differ_true : (p : Bool) → differ true p ≡ not p
differ_true true = refl
differ_true false = refl

differ_false : (p : Bool) → differ false p ≡ p
differ_false true = refl
differ_false false = refl

odd_step : {A : Type 0} (test : A → Bool) (x : A) (xs : List A) (t : Bool)
    → ((length (cond t (x ∷ filter test xs) (filter test xs)) % 2) == 1) ≡ differ t ((length (filter test xs) % 2) == 1)
odd_step test x xs true = odd_more (length (filter test xs)) ∙ sym (differ_true _)
odd_step test x xs false = sym (differ_false _)

-- the first and the others
pub odd_cons : {A : Type 0} (test : A → Bool) (x : A) (xs : List A) → holds_of_odd test (x ∷ xs) ≡ differ (test x) (holds_of_odd test xs)
unfolding holds_of_odd
odd_cons test x xs = odd_step test x xs (test x)

pub differ_none : (p : Bool) → differ false p ≡ p
differ_none p = differ_false p

pub differ_swap : (p q r : Bool) → differ p (differ q r) ≡ differ q (differ p r)
differ_swap true true r = refl
differ_swap true false true = refl
differ_swap true false false = refl
differ_swap false true true = refl
differ_swap false true false = refl
differ_swap false false r = refl

pub differ_assoc : (p q r : Bool) → differ (differ p q) r ≡ differ p (differ q r)
differ_assoc true true true = refl
differ_assoc true true false = refl
differ_assoc true false true = refl
differ_assoc true false false = refl
differ_assoc false true true = refl
differ_assoc false true false = refl
differ_assoc false false true = refl
differ_assoc false false false = refl

-- the same test twice
pub differ_again : (p q : Bool) → differ p (differ p q) ≡ q
differ_again true true = refl
differ_again true false = refl
differ_again false true = refl
differ_again false false = refl

-- joined lists
pub odd_append : {A : Type 0} (test : A → Bool) (xs ys : List A) → holds_of_odd test (xs ++ ys) ≡ differ (holds_of_odd test xs) (holds_of_odd test ys)
odd_append test [] ys = sym (ap (λ w. differ w (holds_of_odd test ys)) (odd_nil test) ∙ differ_false (holds_of_odd test ys))
odd_append test (x ∷ xs) ys =
    odd_cons test x (xs ++ ys)
    ∙ (ap (λ w. differ (test x) w) (odd_append test xs ys)
    ∙ (sym (differ_assoc (test x) (holds_of_odd test xs) (holds_of_odd test ys)) ∙ ap (λ w. differ w (holds_of_odd test ys)) (sym (odd_cons test x xs))))

-- an odd number of all
pub odd_all : {A : Type 0} (test : A → Bool) (xs : List A) → ((x : A) → test x ≡ true) → holds_of_odd test xs ≡ ((length xs % 2) == 1)
odd_all test [] h = odd_nil test
odd_all test (x ∷ xs) h =
    odd_cons test x xs ∙ (ap (λ w. differ w (holds_of_odd test xs)) (h x)
    ∙ (differ_true (holds_of_odd test xs) ∙ (ap not (odd_all test xs h) ∙ sym (odd_more (length xs)))))
