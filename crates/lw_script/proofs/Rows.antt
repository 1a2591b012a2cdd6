-- A list by its elements.
use Rattle.std.proofs.Common.{◌≡◌, ℕ, ◌<◌, List, length, map, get_or, sym, subst, ◌∙◌, arith}
use Rattle.std.specs.List.{range_with_len}
use Rattle.std.proofs.lemmas.List.{ext_get_or}
use Rattle.std.proofs.lemmas.List.FromFn.{get_or-map-range_with_len, length-map-range_with_len}

-- a list with these elements, so many of them
pub tabulated : {X : Type 0} (d : X) (xs : List X) (f : ℕ → X) (n : ℕ) → length xs ≡ n → ((i : ℕ) → i < n → get_or xs i d ≡ f i) → xs ≡ map f (range_with_len 0 n)
tabulated d xs f n long each =
    ext_get_or d xs (map f (range_with_len 0 n)) (long ∙ sym (length-map-range_with_len f 0 n)) (λ i below. (let within : i < n = subst (λ (k : ℕ). i < k) long below in each i within ∙ sym (get_or-map-range_with_len f 0 n i i d within (omega arith))))
