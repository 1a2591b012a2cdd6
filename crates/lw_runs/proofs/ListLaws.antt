-- Entries of a list of which one was set.
use Rattle.std.proofs.Common.{◌≡◌, ◌≢◌, ℕ, zero, suc, ◌-◌, ◌<◌, List, [], ◌∷◌, ◌++◌, length, set, get_or, Some, ◌∙◌, sym, refl, ap, subst, ⊎_elim, arith}
use Rattle.std.specs.List.{slice_get}
use Rattle.std.proofs.lemmas.Bool.{cases_eq}
use Rattle.std.proofs.lemmas.List.{set-append_left, set-append_right, set-get_or}
use Rattle.std.proofs.lemmas.Option.{slice_get_read, get_or_from_slice_get, same_Some}

-- the one that was set
pub set_here : {A : Type 0} (xs : List A) (n : ℕ) (x : A) → n < length xs → slice_get (set xs n x) n ≡ Some x
set_here [] n x low = absurd (omega (arith, low))
set_here (y ∷ ys) zero x low = refl
set_here (y ∷ ys) (suc n) x low = set_here ys n x (omega (arith, low))

-- and any other
pub set_elsewhere : {A : Type 0} (xs : List A) (n k : ℕ) (x : A) → k ≢ n → slice_get (set xs n x) k ≡ slice_get xs k
set_elsewhere [] n k x other = refl
set_elsewhere (y ∷ ys) zero zero x other = absurd (other refl)
set_elsewhere (y ∷ ys) zero (suc k) x other = refl
set_elsewhere (y ∷ ys) (suc n) zero x other = refl
set_elsewhere (y ∷ ys) (suc n) (suc k) x other = set_elsewhere ys n k x (λ same. other (ap suc same))

-- an entry that is set to its own value leaves the list as it was
pub set_back : {A : Type 0} (xs : List A) (n : ℕ) (old new : A) → slice_get xs n ≡ Some old → new ≡ old → set xs n new ≡ xs
set_back xs n old new got same = ap (λ k. set xs n k) (same ∙ sym (get_or_from_slice_get xs n old old got)) ∙ set-get_or xs n old

-- a fact of each entry
pub each_set : {A : Type 0} (P : ℕ → A → Type 0) (xs : List A) (n : ℕ) (x : A) → n < length xs → P n x
    → ((k : ℕ) (a : A) → k ≢ n → slice_get xs k ≡ Some a → P k a) → (k : ℕ) (a : A) → slice_get (set xs n x) k ≡ Some a → P k a
each_set P xs n x low here there k a got =
    ⊎_elim
    (λ (same : k ≡ n).
    let is : x ≡ a = same_Some x a (sym (set_here xs n x low) ∙ (ap (λ j. slice_get (set xs n x) j) (sym same) ∙ got)) in
    let Q : ℕ → Type 0 = λ j. P j a in
    subst Q (sym same) (subst (P n) is here))
    (λ (other : k ≢ n). there k a other (sym (set_elsewhere xs n k x other) ∙ got))
    (cases_eq k n)

-- the entries of a list in two parts
slice_get-front : {A : Type 0} (xs ys : List A) (i : ℕ) → i < length xs → slice_get (xs ++ ys) i ≡ slice_get xs i
slice_get-front [] ys i low = absurd (omega (arith, low))
slice_get-front (x ∷ xs) ys zero low = refl
slice_get-front (x ∷ xs) ys (suc i) low = slice_get-front xs ys i (omega (arith, low))

slice_get-back : {A : Type 0} (xs ys : List A) (n : ℕ) → length xs ≡ n → slice_get (xs ++ ys) n ≡ slice_get ys 0
slice_get-back [] ys zero long = refl
slice_get-back [] ys (suc n) long = absurd (omega (arith, long))
slice_get-back (x ∷ xs) ys zero long = absurd (omega (arith, long))
slice_get-back (x ∷ xs) ys (suc n) long = slice_get-back xs ys n (omega (arith, long))

-- what was read of a part is the entry
pub front_is : {A : Type 0} (all front back : List A) (i : ℕ) (read x : A) → all ≡ front ++ back → i < length front → read ≡ get_or front i read → slice_get all i ≡ Some x → read ≡ x
front_is all front back i read x is low here got =
    same_Some read x (sym (slice_get_read front (length front) i read refl low here) ∙ (sym (slice_get-front front back i low) ∙ (ap (λ q. slice_get q i) (sym is) ∙ got)))

pub back_is : {A : Type 0} (all front back : List A) (n : ℕ) (read x : A) → all ≡ front ++ back → length front ≡ n → read ≡ get_or back 0 read → slice_get all n ≡ Some x → read ≡ x
back_is all front back n read x is long here got =
    let there : slice_get back 0 ≡ Some x = sym (slice_get-back front back n long) ∙ (ap (λ q. slice_get q n) (sym is) ∙ got) in
    here ∙ get_or_from_slice_get back 0 x read there

-- one entry of a part was set
pub front_set : {A : Type 0} (all front back : List A) (i : ℕ) (x : A) → all ≡ front ++ back → i < length front → set front i x ++ back ≡ set all i x
front_set all front back i x is low = sym (set-append_left front back i x low) ∙ ap (λ q. set q i x) (sym is)

pub back_set : {A : Type 0} (all front back : List A) (n : ℕ) (x : A) → all ≡ front ++ back → length front ≡ n → front ++ set back 0 x ≡ set all n x
back_set all front back n x is long =
    let none : n - n ≡ 0 = omega arith in
    ap (λ k. front ++ set back k x) (sym none) ∙ (sym (set-append_right front back n n x long (omega arith)) ∙ ap (λ q. set q n x) (sym is))

-- a place in a list has an entry
pub has_entry : {A : Type 0} (xs : List A) (n : ℕ) → n < length xs → (x : A) × (slice_get xs n ≡ Some x)
has_entry [] n low = absurd (omega (arith, low))
has_entry (x ∷ xs) zero low = (x, refl)
has_entry (x ∷ xs) (suc n) low = has_entry xs n (omega (arith, low))
