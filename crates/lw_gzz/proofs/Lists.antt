-- Lists in which one slot stands directly in front of another.
use Rattle.std.proofs.Common.{◌≡◌, ℕ, ◌+◌, ◌<◌, ◌==◌, Bool, true, false, not, List, [], ◌∷◌, ◌++◌, refl, sym, ap, subst, ◌∙◌}
use Rattle.std.proofs.Common.{arith}
use Rattle.std.specs.Prelude.{if◌then◌else◌}
use Rattle.std.proofs.lemmas.Bool.{eqb-true, eq-eqb, both_ways, false≢true}
use Rattle.std.proofs.lemmas.List.Elements.{filter-append}
use Rattle.lw_calls.specs.declared.make.Place.{Place}
use Rattle.lw_calls.specs.declared.make.Place.TheVariants.{Front, Behind}
use Rattle.lw_calls.specs.Orders.{occurrences}
use Rattle.lw_machine.specs.Arrangement.{without, put_before, placed}
use Rattle.lw_gzz.specs.Together.{StandsBefore}

-- a number that isn't taken out stays
stays : (b : Bool) (x : ℕ) (xs : List ℕ) → b ≡ false → (if not b then x ∷ xs else xs) ≡ x ∷ xs
stays b x xs is = ap (λ t. if not t then x ∷ xs else xs) is

-- a slot in front of a list, and one that is taken out of it
pub front_keeps : (s i o : ℕ) (slots : List ℕ) → StandsBefore i o slots → StandsBefore i o (s ∷ slots)
front_keeps s i o slots h = record { front = s ∷ h.front; behind = h.behind; list = ap (λ l. s ∷ l) h.list }

pub without_keeps : (s i o : ℕ) (slots : List ℕ) → (i == s) ≡ false → (o == s) ≡ false → StandsBefore i o slots
    → StandsBefore i o (without s slots)
without_keeps s i o slots inner outer h =
    record {
      front = without s h.front;
      behind = without s h.behind;
      list = ap (without s) h.list ∙
          (filter-append (λ t. not (t == s)) h.front (i ∷ o ∷ h.behind) ∙ ap (λ l. without s h.front ++ l) both);
    }
  where
    both : without s (i ∷ o ∷ h.behind) ≡ i ∷ o ∷ without s h.behind
    both =
        stays (i == s) i (without s (o ∷ h.behind)) inner ∙
        ap (λ l. i ∷ l) (stays (o == s) o (without s h.behind) outer)

-- a slot that is put before the first that a test names, where it doesn't name the outer one
put_among : (test : ℕ → Bool) (s i o : ℕ) (front behind : List ℕ) → test o ≡ false
    → StandsBefore i o (put_before test s (front ++ i ∷ o ∷ behind))
put_among test s i o [] behind plain = step (test i)
  where
    step : (b : Bool) → StandsBefore i o (if b then s ∷ i ∷ o ∷ behind else i ∷ put_before test s (o ∷ behind))
    step true = record { front = s ∷ []; behind = behind; list = refl }
    step false =
        record {
          front = [];
          behind = put_before test s behind;
          list = ap (λ t. i ∷ (if t then s ∷ o ∷ behind else o ∷ put_before test s behind)) plain;
        }
put_among test s i o (u ∷ us) behind plain = step (test u) (put_among test s i o us behind plain)
  where
    step : (b : Bool) → StandsBefore i o (put_before test s (us ++ i ∷ o ∷ behind))
        → StandsBefore i o (if b then s ∷ u ∷ us ++ i ∷ o ∷ behind else u ∷ put_before test s (us ++ i ∷ o ∷ behind))
    step true h = record { front = s ∷ u ∷ us; behind = behind; list = refl }
    step false h = front_keeps u i o (put_before test s (us ++ i ∷ o ∷ behind)) h

pub put_keeps : (test : ℕ → Bool) (s i o : ℕ) (slots : List ℕ) → test o ≡ false → StandsBefore i o slots
    → StandsBefore i o (put_before test s slots)
put_keeps test s i o slots plain h =
    subst (λ l. StandsBefore i o (put_before test s l)) (sym h.list) (put_among test s i o h.front h.behind plain)

-- a new layer's slot, where the outer one is no backdrop
pub placed_keeps : (test : ℕ → Bool) (flag : Bool) (place : Place) (s i o : ℕ) (slots : List ℕ) → test o ≡ false
    → StandsBefore i o slots → StandsBefore i o (placed test flag place s slots)
placed_keeps test false Front s i o slots plain h = front_keeps s i o slots h
placed_keeps test false Behind s i o slots plain h = put_keeps test s i o slots plain h
placed_keeps test true Front s i o slots plain h = put_keeps test s i o slots plain h
placed_keeps test true Behind s i o slots plain h = put_keeps (λ t. false) s i o slots refl h

-- the outer slot is listed
outer_among : (i o : ℕ) (front behind : List ℕ) → 0 < occurrences o (front ++ i ∷ o ∷ behind)
outer_among i o [] behind = step (o == o) (eq-eqb o o refl)
  where
    step : (b : Bool) → b ≡ true → 0 < (if i == o then 1 else 0) + ((if b then 1 else 0) + occurrences o behind)
    step true is = omega arith
    step false is = absurd (false≢true is)
outer_among i o (u ∷ us) behind = let h = outer_among i o us behind in omega (arith, h)

pub outer_listed : (i o : ℕ) (slots : List ℕ) → StandsBefore i o slots → 0 < occurrences o slots
outer_listed i o slots h = subst (λ l. 0 < occurrences o l) (sym h.list) (outer_among i o h.front h.behind)

-- the inner slot is put directly in front of the outer one
pub brought : (i o : ℕ) (slots : List ℕ) → 0 < occurrences o slots → StandsBefore i o (put_before (λ t. t == o) i slots)
brought i o [] has = absurd (omega (arith, has))
brought i o (u ∷ us) has = step (u == o) refl has (λ more. brought i o us more)
  where
    step : (b : Bool) → (u == o) ≡ b → 0 < (if b then 1 else 0) + occurrences o us
        → (0 < occurrences o us → StandsBefore i o (put_before (λ t. t == o) i us))
        → StandsBefore i o (if b then i ∷ u ∷ us else u ∷ put_before (λ t. t == o) i us)
    step true e has h = record { front = []; behind = us; list = ap (λ n. i ∷ n ∷ us) (eqb-true u o e) }
    step false e has h = front_keeps u i o (put_before (λ t. t == o) i us) (h (omega (arith, has)))

-- first the outer one to the front, and then the inner one
pub both_front : (i o : ℕ) (slots : List ℕ) → (o == i) ≡ false → StandsBefore i o (i ∷ without i (o ∷ slots))
both_front i o slots differ =
    record { front = []; behind = without i slots; list = ap (λ l. i ∷ l) (stays (o == i) o (without i slots) differ) }

-- first the inner one behind all that are no backdrops, and then the outer one
pub both_behind : (test : ℕ → Bool) (i o : ℕ) (slots : List ℕ) → test i ≡ false → test o ≡ false → (i == o) ≡ false
    → StandsBefore i o (put_before test o (without o (put_before test i slots)))
both_behind test i o [] inner outer differ =
    record {
      front = [];
      behind = [];
      list = ap (put_before test o) (stays (i == o) i [] differ) ∙ ap (λ t. if t then o ∷ i ∷ [] else i ∷ o ∷ []) inner;
    }
both_behind test i o (u ∷ us) inner outer differ =
    step (test u) (u == o) refl refl (both_behind test i o us inner outer differ)
  where
    rest : List ℕ
    rest = put_before test i us

    first : (test u ≡ true) → (u == o) ≡ false
        → put_before test o (without o (i ∷ u ∷ us)) ≡ i ∷ o ∷ u ∷ without o us
    first is other =
        ap (put_before test o)
        (stays (i == o) i (without o (u ∷ us)) differ ∙ ap (λ l. i ∷ l) (stays (u == o) u (without o us) other)) ∙
        (ap (λ t. if t then o ∷ i ∷ u ∷ without o us else i ∷ put_before test o (u ∷ without o us)) inner ∙
        ap (λ t. i ∷ (if t then o ∷ u ∷ without o us else u ∷ put_before test o (without o us))) is)

    further : (c : Bool) → (u == o) ≡ c → test u ≡ false → StandsBefore i o (put_before test o (without o rest))
        → StandsBefore i o (put_before test o (if not c then u ∷ without o rest else without o rest))
    further true e is h = h
    further false e is h =
        subst (λ t. StandsBefore i o (if t then o ∷ u ∷ without o rest else u ∷ put_before test o (without o rest))) (sym is)
        (front_keeps u i o (put_before test o (without o rest)) h)

    step : (b c : Bool) → test u ≡ b → (u == o) ≡ c → StandsBefore i o (put_before test o (without o rest))
        → StandsBefore i o (put_before test o (without o (if b then i ∷ u ∷ us else u ∷ rest)))
    step true true is e h = absurd (both_ways (test o) outer (ap test (sym (eqb-true u o e)) ∙ is))
    step true false is e h = record { front = []; behind = u ∷ without o us; list = first is e }
    step false c is e h = further (u == o) refl is h
