-- Tests of some element, through the makings of a list.
use Rattle.std.proofs.Common.{◌≡◌, Bool, true, false, cond, ◌&&◌, ◌||◌, List, [], ◌∷◌, map, refl, ap, sym, ◌∙◌}
use Rattle.std.specs.List.{list_any, filter, flat_map}
use Rattle.std.proofs.lemmas.Bool.{false≢true, or_left, or_right}
use Rattle.std.proofs.lemmas.List.Folds.{list_any-append}
use Rattle.std.proofs.Math.Bool.{and-or_distrib_right, and_comm}

-- tests that agree find alike
pub any_agree : {A : Type 0} (p q : A → Bool) → ((a : A) → p a ≡ q a) → (s : List A) → list_any p s ≡ list_any q s
any_agree p q h [] = refl
any_agree p q h (a ∷ s) = ap (λ w. w || list_any p s) (h a) ∙ ap (λ w. q a || w) (any_agree p q h s)

-- a test on what a function gives
pub any_map : {A B : Type 0} (p : B → Bool) (f : A → B) (s : List A) → list_any p (map f s) ≡ list_any (λ a. p (f a)) s
any_map p f [] = refl
any_map p f (a ∷ s) = ap (λ w. p (f a) || w) (any_map p f s)

-- a test on what one more element leaves of a filter
any_filter_step : {A : Type 0} (p q : A → Bool) (a : A) (s : List A) → list_any p (filter q s) ≡ list_any (λ b. q b && p b) s
    → (t : Bool) → list_any p (cond t (a ∷ filter q s) (filter q s)) ≡ ((t && p a) || list_any (λ b. q b && p b) s)
any_filter_step p q a s h true = ap (λ w. p a || w) h
any_filter_step p q a s h false = h

-- a test on what a filter keeps
pub any_filter : {A : Type 0} (p q : A → Bool) (s : List A) → list_any p (filter q s) ≡ list_any (λ b. q b && p b) s
any_filter p q [] = refl
any_filter p q (a ∷ s) = any_filter_step p q a s (any_filter p q s) (q a)

-- a test on lists end to end
pub any_flat_map : {A B : Type 0} (p : B → Bool) (f : A → List B) (s : List A) → list_any p (flat_map f s) ≡ list_any (λ a. list_any p (f a)) s
any_flat_map p f [] = refl
any_flat_map p f (a ∷ s) = list_any-append p (f a) (flat_map f s) ∙ ap (λ w. list_any p (f a) || w) (any_flat_map p f s)

-- a further test that is the same for each element
pub any_and : {A : Type 0} (p : A → Bool) (c : Bool) (s : List A) → list_any (λ a. p a && c) s ≡ (list_any p s && c)
any_and p c [] = refl
any_and p c (a ∷ s) = ap (λ w. (p a && c) || w) (any_and p c s) ∙ sym (and-or_distrib_right (p a) (list_any p s) c)

-- an element that passes, at the first or after it
any_some_step : {A : Type 0} (p : A → Bool) (a : A) (s : List A)
    → (list_any p s ≡ true → (b : A) × (p b ≡ true) × ((q : A → Bool) → q b ≡ true → list_any q s ≡ true))
    → (t : Bool) → p a ≡ t → (t || list_any p s) ≡ true
    → (b : A) × (p b ≡ true) × ((q : A → Bool) → q b ≡ true → list_any q (a ∷ s) ≡ true)
any_some_step p a s h true e k = (a, e, λ q f. or_left (q a) (list_any q s) f)
any_some_step p a s h false e k = let r = h k in (r.0, r.1, λ q f. or_right (q a) (list_any q s) (r.2 q f))

-- an element that passes
pub any_some : {A : Type 0} (p : A → Bool) (s : List A) → list_any p s ≡ true
    → (b : A) × (p b ≡ true) × ((q : A → Bool) → q b ≡ true → list_any q s ≡ true)
any_some p [] h = absurd (false≢true h)
any_some p (a ∷ s) h = any_some_step p a s (any_some p s) (p a) refl h

-- a test behind two, in front of the second
pub and_between : (p q r : Bool) → ((p && q) && r) ≡ ((p && r) && q)
and_between true q r = and_comm q r
and_between false q r = refl

-- two tests that agree with two others hold together where those do
pub and_alike : (p q r s : Bool) → p ≡ r → q ≡ s → (p && q) ≡ (r && s)
and_alike p q r s first second = rw (first, second) refl
