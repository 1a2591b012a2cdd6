-- A list of slots, and what is left of it where only some of the slots count.
use Rattle.std.proofs.Common.{◌≡◌, ℕ, ◌+◌, ◌<◌, ◌==◌, Bool, true, false, not, List, [], ◌∷◌, refl, sym, ap, ◌∙◌, arith}
use Rattle.std.specs.Prelude.{if◌then◌else◌}
use Rattle.std.specs.List.{filter, list_all}
use Rattle.std.proofs.lemmas.Bool.{and_parts, and_from, eqb-true}
use Rattle.lw_calls.specs.declared.make.Place.{Place}
use Rattle.lw_calls.specs.declared.make.Place.TheVariants.{Front, Behind}
use Rattle.lw_calls.specs.Orders.{occurrences}
use Rattle.lw_machine.specs.Arrangement.{without, put_before, placed}
use Rattle.lw_machine.specs.Sound.{backdrops_last}

-- of a list's first element and what is left of the rest, where the test on it is told
passes : {A : Type 0} (b : Bool) (x : A) (xs : List A) → b ≡ true → (if b then x ∷ xs else xs) ≡ x ∷ xs
passes b x xs is = ap (λ t. if t then x ∷ xs else xs) is

fails : {A : Type 0} (b : Bool) (x : A) (xs : List A) → b ≡ false → (if b then x ∷ xs else xs) ≡ xs
fails b x xs is = ap (λ t. if t then x ∷ xs else xs) is

-- two tests may be asked in either order
swapped : (p q : ℕ → Bool) (us : List ℕ) → filter p (filter q us) ≡ filter q (filter p us)
swapped p q [] = refl
swapped p q (u ∷ us) = step (p u) (q u) refl refl (swapped p q us)
  where
    step : (b c : Bool) → p u ≡ b → q u ≡ c → filter p (filter q us) ≡ filter q (filter p us)
        → filter p (if c then u ∷ filter q us else filter q us) ≡ filter q (if b then u ∷ filter p us else filter p us)
    step true true is has h =
        passes (p u) u (filter p (filter q us)) is ∙ (ap (λ l. u ∷ l) h ∙ sym (passes (q u) u (filter q (filter p us)) has))
    step true false is has h = h ∙ sym (fails (q u) u (filter q (filter p us)) has)
    step false true is has h = fails (p u) u (filter p (filter q us)) is ∙ h
    step false false is has h = h

-- a slot is taken out of what is left, too
pub own_without : (own : ℕ → Bool) (s : ℕ) (us : List ℕ) → filter own (without s us) ≡ without s (filter own us)
own_without own s us = swapped own (λ t. not (t == s)) us

-- a slot that doesn't count is taken out of the list alone
pub other_without : (own : ℕ → Bool) (s : ℕ) (us : List ℕ) → own s ≡ false → filter own (without s us) ≡ filter own us
other_without own s [] other = refl
other_without own s (u ∷ us) other = step (u == s) refl (other_without own s us other)
  where
    step : (c : Bool) → (u == s) ≡ c → filter own (without s us) ≡ filter own us
        → filter own (if not c then u ∷ without s us else without s us) ≡ filter own (u ∷ us)
    step true same h = h ∙ sym (fails (own u) u (filter own us) (ap own (eqb-true u s same) ∙ other))
    step false differ h = λ i. if own u then u ∷ h i else h i

-- what is left has no slot that doesn't count
pub own_member : (own : ℕ → Bool) (t : ℕ) (us : List ℕ) → 0 < occurrences t (filter own us) → own t ≡ true
own_member own t [] has = absurd (omega (arith, has))
own_member own t (u ∷ us) has = step (own u) refl (λ h. own_member own t us h) has
  where
    here : (c : Bool) → (u == t) ≡ c → own u ≡ true → (0 < occurrences t (filter own us) → own t ≡ true)
        → 0 < (if c then 1 else 0) + occurrences t (filter own us) → own t ≡ true
    here true same is rest h = ap own (sym (eqb-true u t same)) ∙ is
    here false differ is rest h = rest (omega (arith, h))

    step : (b : Bool) → own u ≡ b → (0 < occurrences t (filter own us) → own t ≡ true)
        → 0 < occurrences t (if b then u ∷ filter own us else filter own us) → own t ≡ true
    step true is rest h = here (u == t) refl is rest h
    step false is rest h = rest h

-- a slot that doesn't count is put into the list alone
other_put : (own test : ℕ → Bool) (s : ℕ) (us : List ℕ) → own s ≡ false → filter own (put_before test s us) ≡ filter own us
other_put own test s [] other = fails (own s) s [] other
other_put own test s (u ∷ us) other = step (test u) (other_put own test s us other)
  where
    step : (c : Bool) → filter own (put_before test s us) ≡ filter own us
        → filter own (if c then s ∷ u ∷ us else u ∷ put_before test s us) ≡ filter own (u ∷ us)
    step true h = fails (own s) s (filter own (u ∷ us)) other
    step false h = λ i. if own u then u ∷ h i else h i

pub other_placed : (own test : ℕ → Bool) (flag : Bool) (place : Place) (s : ℕ) (us : List ℕ) → own s ≡ false
    → filter own (placed test flag place s us) ≡ filter own us
other_placed own test false Front s us other = fails (own s) s (filter own us) other
other_placed own test false Behind s us other = other_put own test s us other
other_placed own test true Front s us other = other_put own test s us other
other_placed own test true Behind s us other = other_put own (λ t. false) s us other

-- a slot goes in front where all that are left are named
in_front : (own test : ℕ → Bool) (s : ℕ) (us : List ℕ) → list_all test us ≡ true
    → put_before test s (filter own us) ≡ s ∷ filter own us
in_front own test s [] all = refl
in_front own test s (u ∷ us) all = step (own u) (in_front own test s us (and_parts _ _ all).1)
  where
    step : (b : Bool) → put_before test s (filter own us) ≡ s ∷ filter own us
        → put_before test s (if b then u ∷ filter own us else filter own us)
        ≡ s ∷ (if b then u ∷ filter own us else filter own us)
    step true h =
        ap (λ t. if t then s ∷ u ∷ filter own us else u ∷ put_before test s (filter own us)) (and_parts (test u) _ all).0
    step false h = h

-- a slot is put at the same place among those that are left
own_put : (own test : ℕ → Bool) (s : ℕ) (us : List ℕ) → own s ≡ true → backdrops_last test us ≡ true
    → filter own (put_before test s us) ≡ put_before test s (filter own us)
own_put own test s [] mine last = passes (own s) s [] mine
own_put own test s (u ∷ us) mine last = step (test u) refl last (λ rest. own_put own test s us mine rest)
  where
    behind : (b : Bool) → test u ≡ false → filter own (put_before test s us) ≡ put_before test s (filter own us)
        → (if b then u ∷ filter own (put_before test s us) else filter own (put_before test s us))
        ≡ put_before test s (if b then u ∷ filter own us else filter own us)
    behind true is h =
        ap (λ l. u ∷ l) h ∙ sym (ap (λ t. if t then s ∷ u ∷ filter own us else u ∷ put_before test s (filter own us)) is)
    behind false is h = h

    step : (c : Bool) → test u ≡ c → (if c then list_all test us else backdrops_last test us) ≡ true
        → (backdrops_last test us ≡ true → filter own (put_before test s us) ≡ put_before test s (filter own us))
        → filter own (if c then s ∷ u ∷ us else u ∷ put_before test s us) ≡ put_before test s (filter own (u ∷ us))
    step true is all more =
        passes (own s) s (filter own (u ∷ us)) mine ∙
        sym (in_front own test s (u ∷ us) (and_from (test u) (list_all test us) is all))
    step false is rest more = behind (own u) is (more rest)

none_named : (us : List ℕ) → backdrops_last (λ t. false) us ≡ true
none_named [] = refl
none_named (u ∷ us) = none_named us

pub own_placed : (own test : ℕ → Bool) (flag : Bool) (place : Place) (s : ℕ) (us : List ℕ) → own s ≡ true
    → backdrops_last test us ≡ true
    → filter own (placed test flag place s us) ≡ placed test flag place s (filter own us)
own_placed own test false Front s us mine last = passes (own s) s (filter own us) mine
own_placed own test false Behind s us mine last = own_put own test s us mine last
own_placed own test true Front s us mine last = own_put own test s us mine last
own_placed own test true Behind s us mine last = own_put own (λ t. false) s us mine (none_named us)

-- a slot that is brought to the front is in front of what is left, too, where it counts
pub own_front : (own : ℕ → Bool) (s : ℕ) (us : List ℕ) → own s ≡ true
    → filter own (s ∷ without s us) ≡ s ∷ without s (filter own us)
own_front own s us mine = passes (own s) s (filter own (without s us)) mine ∙ ap (λ l. s ∷ l) (own_without own s us)

pub other_front : (own : ℕ → Bool) (s : ℕ) (us : List ℕ) → own s ≡ false → filter own (s ∷ without s us) ≡ filter own us
other_front own s us other = fails (own s) s (filter own (without s us)) other ∙ other_without own s us other
