-- Lists by the numbers from 0 on, with one number more.
use Rattle.std.proofs.Common.{◌≡◌, ℕ, ◌+◌, List, [], ◌∷◌, ◌++◌, map, sym, ap, ◌∙◌, arith}
use Rattle.std.specs.List.{flat_map, range_with_len}
use Rattle.std.proofs.lemmas.List.{map-append, map-id, append-nil}
use Rattle.std.proofs.lemmas.List.Concat.{flat_map-append}
use Rattle.std.proofs.lemmas.List.FromFn.{map-range_with_len_more}

module _ {X : Type 0} (f : ℕ → X) (t : ℕ) where
  pub one_more : (xs new : List X) (x : X) → xs ≡ map f (range_with_len 0 t) → x ≡ f t → new ≡ xs ++ x ∷ []
      → new ≡ map f (range_with_len 0 (t + 1))
  one_more xs new x so is grown = grown ∙ ((λ i. so i ++ is i ∷ []) ∙ sym (map-range_with_len_more f 0 t t (omega arith)))

  -- the same of a list that is seen element by element
  pub one_seen : {Y : Type 0} (view : Y → X) (ys new : List Y) (y : Y) → map view ys ≡ map f (range_with_len 0 t) → view y ≡ f t
      → new ≡ ys ++ y ∷ [] → map view new ≡ map f (range_with_len 0 (t + 1))
  one_seen view ys new y so is grown =
      one_more (map view ys) (map view new) (view y) so is (ap (map view) grown ∙ map-append view ys (y ∷ []))

-- the same of lists in a row
pub some_more : {X : Type 0} (f : ℕ → List X) (t : ℕ) (xs new : List X) → xs ≡ flat_map f (range_with_len 0 t) → new ≡ xs ++ f t
    → new ≡ flat_map f (range_with_len 0 (t + 1))
some_more f t xs new so grown =
    let numbers : range_with_len 0 (t + 1) ≡ range_with_len 0 t ++ t ∷ [] =
    sym (map-id (range_with_len 0 (t + 1))) ∙
    (map-range_with_len_more (λ n. n) 0 t t (omega arith) ∙ ap (λ l. l ++ t ∷ []) (map-id (range_with_len 0 t))) in
    grown ∙ (ap (λ l. l ++ f t) so ∙
    sym (ap (flat_map f) numbers ∙
    (flat_map-append f (range_with_len 0 t) (t ∷ []) ∙ ap (λ l. flat_map f (range_with_len 0 t) ++ l) (append-nil (f t)))))
