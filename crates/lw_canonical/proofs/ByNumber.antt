-- Lists that are gathered number by number.
use Rattle.std.proofs.Common.{◌≡◌, ℕ, zero, suc, ◌+◌, ◌<◌, ◌≤◌, Bool, true, false, not, cond, ◌||◌, List, [], ◌∷◌, ◌++◌, map, flat_map, slice_index_or, bytes_eq, refl, sym, ap, ap₂, ◌∙◌, arith, add-one, one-add, zero-add}
use Rattle.std.specs.List.{list_any, range_with_len}
use Rattle.lw_grammar.specs.Told.{place_among}
use Rattle.lw_grammar.proofs.ScriptNames.{equal_names}
use Rattle.std.proofs.lemmas.Bool.{false≢true}
use Rattle.std.proofs.lemmas.List.FromFn.{get_or-map-range_with_len}

-- the same is gathered where each number gives the same
pub gathered_same : {A : Type 0} (f g : ℕ → List A) (a n : ℕ) → ((i : ℕ) → a ≤ i → i < a + n → f i ≡ g i) → flat_map f (range_with_len a n) ≡ flat_map g (range_with_len a n)
gathered_same f g a zero h = refl
gathered_same f g a (suc n) h = ap₂ (λ x y. x ++ y) (h a (omega arith) (omega arith)) (gathered_same f g (a + 1) n (λ i low high. h i (omega arith) (omega arith)))

-- from the next number on
pub gathered_next : {A : Type 0} (f : ℕ → List A) (a n : ℕ) → flat_map f (range_with_len (a + 1) n) ≡ flat_map (λ i. f (suc i)) (range_with_len a n)
gathered_next f a zero = refl
gathered_next f a (suc n) = ap₂ (λ x y. x ++ y) (ap f (add-one a)) (gathered_next f (a + 1) n)

-- what a list has by number, where it was made by number
pub gathered_made : {A B : Type 0} (g : ℕ → A → List B) (f : ℕ → A) (d : A) (n : ℕ) → flat_map (λ i. g i (slice_index_or (map f (range_with_len 0 n)) i d)) (range_with_len 0 n) ≡ flat_map (λ i. g i (f i)) (range_with_len 0 n)
gathered_made g f d n =
    gathered_same (λ i. g i (slice_index_or (map f (range_with_len 0 n)) i d)) (λ i. g i (f i)) 0 n (λ i low high. ap (g i) (get_or-map-range_with_len f 0 n i i d (omega arith) (zero-add i)))

-- a name is found at its place
pub found_itself : (names : List (List ℕ)) (n : List ℕ) → list_any (bytes_eq n) names ≡ true → slice_index_or names (place_among names n) [] ≡ n
found_itself [] n h = absurd (false≢true h)
found_itself (m ∷ ms) n h = step (bytes_eq n m) refl h (found_itself ms n)
  where
    step : (b : Bool) → bytes_eq n m ≡ b → (b || list_any (bytes_eq n) ms) ≡ true → (list_any (bytes_eq n) ms ≡ true → slice_index_or ms (place_among ms n) [] ≡ n) → slice_index_or (m ∷ ms) (cond (not b) (1 + place_among ms n) 0) [] ≡ n
    step true e h go = sym (equal_names n m e)
    step false e h go = ap (λ k. slice_index_or (m ∷ ms) k []) (one-add (place_among ms n)) ∙ go h
