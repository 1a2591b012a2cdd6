-- A search through a range of places.
use Rattle.std.proofs.Common.{◌≡◌, ℕ, suc, ◌+◌, ◌-◌, ◌<◌, Bool, false, ◌∷◌, refl, ap, ◌∙◌, arith}
use Rattle.std.specs.List.{list_any, range_with_len}

-- a range by its first place
step : (i n : ℕ) → i < n → range_with_len i (n - i) ≡ i ∷ range_with_len (i + 1) (n - (i + 1))
step i n h = let e : n - i ≡ suc (n - (i + 1)) = omega arith in let d : i + 1 ≡ suc i = omega arith in rw (e, d) refl

pub passes_not : (p : ℕ → Bool) (i n : ℕ) → i < n → p i ≡ false → list_any p (range_with_len i (n - i)) ≡ list_any p (range_with_len (i + 1) (n - (i + 1)))
passes_not p i n h e = ap (list_any p) (step i n h) ∙ rw e refl
