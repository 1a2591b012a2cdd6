-- Ranges of numbers by their last one.
use Rattle.std.proofs.Common.{◌≡◌, ℕ, zero, suc, ◌+◌, [], ◌∷◌, ◌++◌, ◌∙◌, ap, arith, zero-add}
use Rattle.std.specs.List.{range_with_len}

-- a range has its last number at the end
pub range_last : (n : ℕ) → range_with_len 0 (suc n) ≡ range_with_len 0 n ++ n ∷ []
range_last n = from 0 n ∙ ap (λ i. range_with_len 0 n ++ i ∷ []) (zero-add n)
  where
    from : (a n : ℕ) → range_with_len a (suc n) ≡ range_with_len a n ++ (a + n) ∷ []
    from a zero = let last : a ≡ a + 0 = omega arith in ap (λ i. i ∷ []) last
    from a (suc n) =
        let last : (a + 1) + n ≡ a + suc n = omega arith in
        ap (λ xs. a ∷ xs) (from (a + 1) n ∙ ap (λ i. range_with_len (a + 1) n ++ i ∷ []) last)
