-- The place of a name among names that are kept as references.
use Rattle.std.proofs.Common.{◌≡◌, ℕ, ◌≤◌, Bool, not, List, length, position, Some, None, Bor, ◌∙◌, arith}
use Rattle.std.specs.List.{position_or_len}
use Rattle.lw_words.specs.Cuts.{targets}
use Rattle.lw_words.proofs.Targets.{place_of_target}
use Rattle.std.proofs.lemmas.Grind.{common_steps}
use Rattle.std.proofs.lemmas.List.Sums.{prefix_len-le-length}

-- a place that is found is the first one
pub found : (p : List ℕ → Bool) (ks : List (Bor (List ℕ))) (i : ℕ) → position (λ k. p k.now) ks ≡ Some i → i ≡ position_or_len p (targets ks)
found p ks i e = let at : i ≡ position_or_len (λ k. p k.now) ks = grind (arith, common_steps) in at ∙ place_of_target p ks

-- where none is found, the place is after all
pub absent : (p : List ℕ → Bool) (ks : List (Bor (List ℕ))) → position (λ k. p k.now) ks ≡ None → length ks ≡ position_or_len p (targets ks)
absent p ks e =
    let most : position_or_len (λ k. p k.now) ks ≤ length ks = prefix_len-le-length (λ k. not (p k.now)) ks in
    let least : length ks ≤ position_or_len (λ k. p k.now) ks = grind (arith, common_steps) in
    let past : length ks ≡ position_or_len (λ k. p k.now) ks = omega (arith, most, least) in
    past ∙ place_of_target p ks
