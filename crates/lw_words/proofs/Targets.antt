-- What references point to.
use Rattle.std.proofs.Common.{◌≡◌, ℕ, ◌+◌, Bool, not, cond, ◌||◌, List, [], ◌∷◌, ◌++◌, length, Bor, refl, ap, arith}
use Rattle.std.specs.List.{list_any, position_or_len}
use Rattle.lw_words.specs.Cuts.{targets}

-- a reference put at the end
pub targets_push : (ks : List (Bor (List ℕ))) (k : Bor (List ℕ)) → targets (ks ++ k ∷ []) ≡ targets ks ++ k.now ∷ []
targets_push [] k = refl
targets_push (j ∷ ks) k = ap (λ ns. j.now ∷ ns) (targets_push ks k)

-- a test of what references point to
pub any_target : (p : List ℕ → Bool) (ks : List (Bor (List ℕ))) → list_any (λ k. p k.now) ks ≡ list_any p (targets ks)
any_target p [] = refl
any_target p (k ∷ ks) = ap (λ b. p k.now || b) (any_target p ks)

-- the first place where a test passes
pub place_of_target : (p : List ℕ → Bool) (ks : List (Bor (List ℕ))) → position_or_len (λ k. p k.now) ks ≡ position_or_len p (targets ks)
place_of_target p [] = refl
place_of_target p (k ∷ ks) = ap (λ n. cond (not (p k.now)) (1 + n) 0) (place_of_target p ks)

-- as many targets as references
pub length_targets : (ks : List (Bor (List ℕ))) → length (targets ks) ≡ length ks
length_targets [] = refl
length_targets (k ∷ ks) = omega (arith, length_targets ks)
