-- Laws of the list of slots from front to back: how often each slot stands in it, and that backdrop layers come last.
use Rattle.std.proofs.Common.{◌≡◌, ℕ, ◌+◌, ◌<◌, ◌==◌, Bool, true, false, not, List, [], ◌∷◌, refl, sym, ap, ◌∙◌, arith}
use Rattle.std.specs.Prelude.{if◌then◌else◌}
use Rattle.std.specs.List.{list_all}
use Rattle.std.proofs.lemmas.Bool.{eqb-true, eq-eqb, and_parts, and_from, both_ways}
use Rattle.lw_calls.specs.declared.make.Place.{Place}
use Rattle.lw_calls.specs.declared.make.Place.TheVariants.{Front, Behind}
use Rattle.lw_calls.specs.Orders.{occurrences}
use Rattle.lw_machine.specs.Arrangement.{without, put_before, placed}
use Rattle.lw_machine.specs.Sound.{backdrops_last}

-- one more in a list, counted apart
apart : (one a b c : ℕ) → b ≡ one + c → a + b ≡ one + (a + c)
apart one a b c h = omega arith

-- where a slot is put into a list, it stands there once more, and each other as often as before
pub occurrences_put_before : (test : ℕ → Bool) (s t : ℕ) (us : List ℕ)
    → occurrences t (put_before test s us) ≡ (if s == t then 1 else 0) + occurrences t us
occurrences_put_before test s t [] = refl
occurrences_put_before test s t (u ∷ us) =
    step (test u) (occurrences_put_before test s t us)
  where
    step : (b : Bool) → occurrences t (put_before test s us) ≡ (if s == t then 1 else 0) + occurrences t us
        → occurrences t (if b then s ∷ u ∷ us else u ∷ put_before test s us)
        ≡ (if s == t then 1 else 0) + ((if u == t then 1 else 0) + occurrences t us)
    step true h = refl
    step false h =
        apart (if s == t then 1 else 0) (if u == t then 1 else 0) (occurrences t (put_before test s us)) (occurrences t us) h

-- a new layer's slot stands in the list once more, wherever it goes
pub occurrences_placed : (test : ℕ → Bool) (flag : Bool) (place : Place) (s t : ℕ) (us : List ℕ)
    → occurrences t (placed test flag place s us) ≡ (if s == t then 1 else 0) + occurrences t us
occurrences_placed test false Front s t us = refl
occurrences_placed test false Behind s t us = occurrences_put_before test s t us
occurrences_placed test true Front s t us = occurrences_put_before test s t us
occurrences_placed test true Behind s t us = occurrences_put_before (λ _. false) s t us

-- a list without a slot hasn't got it
pub occurrences_without_same : (s : ℕ) (us : List ℕ) → occurrences s (without s us) ≡ 0
occurrences_without_same s [] = refl
occurrences_without_same s (u ∷ us) =
    step (u == s) refl (occurrences_without_same s us)
  where
    step : (b : Bool) → (u == s) ≡ b → occurrences s (without s us) ≡ 0
        → occurrences s (if not b then u ∷ without s us else without s us) ≡ 0
    step true e h = h
    step false e h = rw e (omega (arith, h))

-- a list without a slot has each other as often as before
pub occurrences_without_other : (s t : ℕ) (us : List ℕ) → (s == t) ≡ false → occurrences t (without s us) ≡ occurrences t us
occurrences_without_other s t [] other = refl
occurrences_without_other s t (u ∷ us) other =
    step (u == s) refl (occurrences_without_other s t us other)
  where
    step : (b : Bool) → (u == s) ≡ b → occurrences t (without s us) ≡ occurrences t us
        → occurrences t (if not b then u ∷ without s us else without s us) ≡ (if u == t then 1 else 0) + occurrences t us
    step true e h =
        let same : (u == t) ≡ false = ap (λ n. n == t) (eqb-true u s e) ∙ other in
        rw same (omega (arith, h))
    step false e h = ap (λ n. (if u == t then 1 else 0) + n) h

-- a slot that stands in a list once is put elsewhere: each stands in it as often as before
pub occurrences_moved : (s t : ℕ) (us : List ℕ) → occurrences s us ≡ 1
    → (if s == t then 1 else 0) + occurrences t (without s us) ≡ occurrences t us
occurrences_moved s t us once =
    step (s == t) refl
  where
    step : (b : Bool) → (s == t) ≡ b → (if b then 1 else 0) + occurrences t (without s us) ≡ occurrences t us
    step true e =
        let same : s ≡ t = eqb-true s t e in
        let gone : occurrences t (without s us) ≡ 0 =
        ap (λ n. occurrences n (without s us)) (sym same) ∙ occurrences_without_same s us in
        let here : occurrences t us ≡ 1 = ap (λ n. occurrences n us) (sym same) ∙ once in
        omega (arith, gone, here)
    step false e = let h = occurrences_without_other s t us e in omega (arith, h)

-- all of a list are such, so each that stands in it is
pub all_has : (test : ℕ → Bool) (m : ℕ) (us : List ℕ) → list_all test us ≡ true → 0 < occurrences m us → test m ≡ true
all_has test m [] all has = absurd (omega arith)
all_has test m (u ∷ us) all has =
    let parts = and_parts (test u) (list_all test us) all in
    step (u == m) refl parts.0 (λ more. all_has test m us parts.1 more) has
  where
    step : (b : Bool) → (u == m) ≡ b → test u ≡ true → (0 < occurrences m us → test m ≡ true)
        → 0 < (if b then 1 else 0) + occurrences m us → test m ≡ true
    step true e here rest h = ap test (sym (eqb-true u m e)) ∙ here
    step false e here rest h = rest (omega arith)

-- all of a list are such, and so they are without a slot
pub all_without : (test : ℕ → Bool) (s : ℕ) (us : List ℕ) → list_all test us ≡ true → list_all test (without s us) ≡ true
all_without test s [] all = refl
all_without test s (u ∷ us) all =
    let parts = and_parts (test u) (list_all test us) all in
    step (u == s) parts.0 (all_without test s us parts.1)
  where
    step : (b : Bool) → test u ≡ true → list_all test (without s us) ≡ true
        → list_all test (if not b then u ∷ without s us else without s us) ≡ true
    step true here rest = rest
    step false here rest = and_from (test u) (list_all test (without s us)) here rest

-- all of a list are such, and so they are with one more that is
pub all_put_before : (test before : ℕ → Bool) (s : ℕ) (us : List ℕ) → test s ≡ true → list_all test us ≡ true
    → list_all test (put_before before s us) ≡ true
all_put_before test before s [] one all = and_from (test s) true one refl
all_put_before test before s (u ∷ us) one all =
    let parts = and_parts (test u) (list_all test us) all in
    step (before u) parts.0 (all_put_before test before s us one parts.1)
  where
    step : (b : Bool) → test u ≡ true → list_all test (put_before before s us) ≡ true
        → list_all test (if b then s ∷ u ∷ us else u ∷ put_before before s us) ≡ true
    step true here rest = and_from (test s) (list_all test (u ∷ us)) one all
    step false here rest = and_from (test u) (list_all test (put_before before s us)) here rest

-- where all that follow are backdrops, or else the rest has them last
first_of_last : (b : Bool) (all last : Bool) → (b ≡ true → all ≡ true) → (b ≡ false → last ≡ true)
    → (if b then all else last) ≡ true
first_of_last true all last h k = h refl
first_of_last false all last h k = k refl

-- what a list with all backdrops last says of those behind a backdrop, and of those behind another
pub behind_backdrop : (test : ℕ → Bool) (u : ℕ) (us : List ℕ) → backdrops_last test (u ∷ us) ≡ true → test u ≡ true
    → list_all test us ≡ true
behind_backdrop test u us last e = rw e at last

pub behind_other : (test : ℕ → Bool) (u : ℕ) (us : List ℕ) → backdrops_last test (u ∷ us) ≡ true → test u ≡ false
    → backdrops_last test us ≡ true
behind_other test u us last e = rw e at last

-- where all of a list are backdrops, they are last
pub all_last : (test : ℕ → Bool) (us : List ℕ) → list_all test us ≡ true → backdrops_last test us ≡ true
all_last test [] all = refl
all_last test (u ∷ us) all =
    let parts = and_parts (test u) (list_all test us) all in
    first_of_last (test u) (list_all test us) (backdrops_last test us) (λ _. parts.1) (λ _. all_last test us parts.1)

-- without a slot, backdrops are still last
pub last_without : (test : ℕ → Bool) (s : ℕ) (us : List ℕ) → backdrops_last test us ≡ true
    → backdrops_last test (without s us) ≡ true
last_without test s [] last = refl
last_without test s (u ∷ us) last =
    step (u == s) (λ e. all_without test s us (behind_backdrop test u us last e))
    (λ e. last_without test s us (behind_other test u us last e))
  where
    gone : (b : Bool) → test u ≡ b → (test u ≡ true → list_all test (without s us) ≡ true)
        → (test u ≡ false → backdrops_last test (without s us) ≡ true) → backdrops_last test (without s us) ≡ true
    gone true e h k = all_last test (without s us) (h e)
    gone false e h k = k e

    step : (b : Bool) → (test u ≡ true → list_all test (without s us) ≡ true)
        → (test u ≡ false → backdrops_last test (without s us) ≡ true)
        → backdrops_last test (if not b then u ∷ without s us else without s us) ≡ true
    step true h k = gone (test u) refl h k
    step false h k = first_of_last (test u) (list_all test (without s us)) (backdrops_last test (without s us)) h k

-- with one in front that is no backdrop, backdrops are still last
pub last_front : (test : ℕ → Bool) (s : ℕ) (us : List ℕ) → test s ≡ false → backdrops_last test us ≡ true
    → backdrops_last test (s ∷ us) ≡ true
last_front test s us other last = rw other last

-- with one before the first backdrop, be it one or not, backdrops are still last
pub last_before_backdrops : (test : ℕ → Bool) (s : ℕ) (us : List ℕ) → backdrops_last test us ≡ true
    → backdrops_last test (put_before test s us) ≡ true
last_before_backdrops test s [] last = first_of_last (test s) true true (λ _. refl) (λ _. refl)
last_before_backdrops test s (u ∷ us) last =
    step (test u) refl (λ e. last_before_backdrops test s us (behind_other test u us last e))
  where
    step : (b : Bool) → test u ≡ b → (test u ≡ false → backdrops_last test (put_before test s us) ≡ true)
        → backdrops_last test (if b then s ∷ u ∷ us else u ∷ put_before test s us) ≡ true
    step true e h =
        first_of_last (test s) (list_all test (u ∷ us)) (backdrops_last test (u ∷ us))
        (λ _. and_from (test u) (list_all test us) e (behind_backdrop test u us last e)) (λ _. last)
    step false e h =
        first_of_last (test u) (list_all test (put_before test s us)) (backdrops_last test (put_before test s us))
        (λ t. absurd (both_ways (test u) e t)) h

-- with one more backdrop at the end, backdrops are still last
pub last_at_end : (test : ℕ → Bool) (s : ℕ) (us : List ℕ) → test s ≡ true → backdrops_last test us ≡ true
    → backdrops_last test (put_before (λ _. false) s us) ≡ true
last_at_end test s [] one last = first_of_last (test s) true true (λ _. refl) (λ _. refl)
last_at_end test s (u ∷ us) one last =
    first_of_last (test u) (list_all test (put_before (λ _. false) s us)) (backdrops_last test (put_before (λ _. false) s us))
    (λ e. all_put_before test (λ _. false) s us one (behind_backdrop test u us last e))
    (λ e. last_at_end test s us one (behind_other test u us last e))

-- a further one that stands in a list after another one stands in the rest
in_rest : (m u : ℕ) (us : List ℕ) → (u == m) ≡ false → 0 < occurrences m (u ∷ us) → 0 < occurrences m us
in_rest m u us e has = let h : 0 < 0 + occurrences m us = rw e at has in omega (arith, h)

-- with one directly before another, neither of them a backdrop, backdrops are still last
pub last_before_one : (test : ℕ → Bool) (s m : ℕ) (us : List ℕ) → test s ≡ false → test m ≡ false → 0 < occurrences m us
    → backdrops_last test us ≡ true → backdrops_last test (put_before (λ t. t == m) s us) ≡ true
last_before_one test s m [] other one has last = absurd (omega arith)
last_before_one test s m (u ∷ us) other one has last =
    step (u == m) refl (λ e f. last_before_one test s m us other one (in_rest m u us e has) (behind_other test u us last f))
  where
    step : (b : Bool) → (u == m) ≡ b
        → ((u == m) ≡ false → test u ≡ false → backdrops_last test (put_before (λ t. t == m) s us) ≡ true)
        → backdrops_last test (if b then s ∷ u ∷ us else u ∷ put_before (λ t. t == m) s us) ≡ true
    step true e h = last_front test s (u ∷ us) other last
    step false e h =
        first_of_last (test u) (list_all test (put_before (λ t. t == m) s us))
        (backdrops_last test (put_before (λ t. t == m) s us))
        (λ f. absurd (both_ways (test m) one (all_has test m us (behind_backdrop test u us last f) (in_rest m u us e has))))
        (h e)

-- a list's first is in it, and so is each of the rest
pub has_first : (u : ℕ) (us : List ℕ) → 0 < occurrences u (u ∷ us)
has_first u us = let e : (u == u) ≡ true = eq-eqb u u refl in rw e (omega arith)

pub has_rest : (t u : ℕ) (us : List ℕ) → 0 < occurrences t us → 0 < occurrences t (u ∷ us)
has_rest t u us h = omega (arith, h)

-- tests that agree on a list's members say the same of all of them
pub all_same : (test other : ℕ → Bool) (us : List ℕ) → ((t : ℕ) → 0 < occurrences t us → test t ≡ other t)
    → list_all test us ≡ list_all other us
all_same test other [] same = refl
all_same test other (u ∷ us) same =
    let here : test u ≡ other u = same u (has_first u us) in
    let rest : list_all test us ≡ list_all other us = all_same test other us (λ t h. same t (has_rest t u us h)) in
    cc

-- tests that agree on a list's members have backdrops last alike
pub last_same : (test other : ℕ → Bool) (us : List ℕ) → ((t : ℕ) → 0 < occurrences t us → test t ≡ other t)
    → backdrops_last test us ≡ backdrops_last other us
last_same test other [] same = refl
last_same test other (u ∷ us) same =
    let here : test u ≡ other u = same u (has_first u us) in
    let all : list_all test us ≡ list_all other us = all_same test other us (λ t h. same t (has_rest t u us h)) in
    let rest : backdrops_last test us ≡ backdrops_last other us = last_same test other us (λ t h. same t (has_rest t u us h)) in
    cc

-- tests that agree on a list's members put a slot at the same place
pub put_before_same : (test other : ℕ → Bool) (s : ℕ) (us : List ℕ) → ((t : ℕ) → 0 < occurrences t us → test t ≡ other t)
    → put_before test s us ≡ put_before other s us
put_before_same test other s [] same = refl
put_before_same test other s (u ∷ us) same =
    let here : test u ≡ other u = same u (has_first u us) in
    let rest : put_before test s us ≡ put_before other s us =
    put_before_same test other s us (λ t h. same t (has_rest t u us h)) in
    cc

-- and so does a new layer's slot
pub place_same : (test other : ℕ → Bool) (flag : Bool) (place : Place) (s : ℕ) (us : List ℕ)
    → ((t : ℕ) → 0 < occurrences t us → test t ≡ other t) → placed test flag place s us ≡ placed other flag place s us
place_same test other false Front s us same = refl
place_same test other false Behind s us same = put_before_same test other s us same
place_same test other true Front s us same = put_before_same test other s us same
place_same test other true Behind s us same = refl

-- with a new layer's slot in its place, backdrops are still last
pub last_placed : (test : ℕ → Bool) (flag : Bool) (place : Place) (s : ℕ) (us : List ℕ) → test s ≡ flag
    → backdrops_last test us ≡ true → backdrops_last test (placed test flag place s us) ≡ true
last_placed test false Front s us is last = last_front test s us is last
last_placed test false Behind s us is last = last_before_backdrops test s us last
last_placed test true Front s us is last = last_before_backdrops test s us last
last_placed test true Behind s us is last = last_at_end test s us is last
