-- The list of slots from front to back with one put into it.
use Rattle.std.proofs.Common.{◌≡◌, ℕ, suc, ◌+◌, Bool, true, false, not, cond, List, [], ◌∷◌, length, refl, ap, subst, Result, IfOk, arith}
use Rattle.std.specs.List.{insert, position_or_len}
use Rattle.std.specs.Prelude.{if◌then◌else◌}
use Rattle.lw_machine.specs.Arrangement.{put_before}

-- a slot goes to the place of the first that the test names, or to the end
pub put_before_is_insert : (test : ℕ → Bool) (s : ℕ) (us : List ℕ) → put_before test s us ≡ insert us (position_or_len test us) s
put_before_is_insert test s [] = refl
put_before_is_insert test s (u ∷ us) =
    step (test u) (position_or_len test us) (put_before test s us) (put_before_is_insert test s us)
  where
    step : (b : Bool) (n : ℕ) (r : List ℕ) → r ≡ insert us n s
        → (if b then s ∷ u ∷ us else u ∷ r) ≡ insert (u ∷ us) (cond (not b) (1 + n) 0) s
    step true n r h = refl
    step false n r h = let more : 1 + n ≡ suc n = omega arith in rw more (ap (λ l. u ∷ l) h)

-- where the test names none, a slot goes to the end
pub put_last_is_insert : (s : ℕ) (us : List ℕ) → put_before (λ t. false) s us ≡ insert us (length us) s
put_last_is_insert s [] = refl
put_last_is_insert s (u ∷ us) = ap (λ l. u ∷ l) (put_last_is_insert s us)

-- so a list that was put so is that list
pub put_so : {X E : Type 0} (items : X → List ℕ) (o : Result X E) (l m : List ℕ) → l ≡ m → IfOk o (λ v. items v ≡ l)
    → IfOk o (λ v. items v ≡ m)
put_so items o l m e h = subst (λ (k : List ℕ). IfOk o (λ v. items v ≡ k)) e h
