-- Lists that are written piece by piece.
use Rattle.std.proofs.Common.{◌≡◌, ℕ, ◌+◌, ◌<◌, List, [], ◌∷◌, ◌++◌, map, ◌∙◌, sym, ap, add-one}
use Rattle.std.specs.List.{flat_map, range_with_len}
use Rattle.std.proofs.lemmas.List.{flat_map_more}
use Rattle.std.proofs.lemmas.List.Folds.{flat_map-map}
use Rattle.lw_planes.proofs.GridLaws.{map_range_same}
use Rattle.lw_calls.proofs.Ranges.{range_last}

-- one more piece, by its number
pieces_more : {A : Type 0} (f : ℕ → List A) (bs : List A) (n : ℕ) → (bs ++ flat_map f (range_with_len 0 n)) ++ f n ≡ bs ++ flat_map f (range_with_len 0 (n + 1))
pieces_more f bs n =
    let longer : range_with_len 0 n ++ n ∷ [] ≡ range_with_len 0 (n + 1) = sym (range_last n) ∙ ap (range_with_len 0) (sym (add-one n)) in
    flat_map_more f bs (range_with_len 0 n) n ∙ ap (λ xs. bs ++ flat_map f xs) longer

-- equal pieces make equal lists
pub pieces_same : {A : Type 0} (n : ℕ) (f g : ℕ → List A) → ((i : ℕ) → i < n → f i ≡ g i) → flat_map f (range_with_len 0 n) ≡ flat_map g (range_with_len 0 n)
pieces_same n f g same =
    sym (flat_map-map (λ xs. xs) f (range_with_len 0 n)) ∙
    (ap (λ xss. flat_map (λ xs. xs) xss) (map_range_same n f g same) ∙ flat_map-map (λ xs. xs) g (range_with_len 0 n))

-- one more piece is written
pub piece_written : {A : Type 0} (f : ℕ → List A) (start was now piece : List A) (n : ℕ) → was ≡ start ++ flat_map f (range_with_len 0 n) → now ≡ was ++ piece → piece ≡ f n → now ≡ start ++ flat_map f (range_with_len 0 (n + 1))
piece_written f start was now piece n front step here =
    step ∙ (ap (λ xs. xs ++ piece) front ∙ (ap (λ xs. (start ++ flat_map f (range_with_len 0 n)) ++ xs) here ∙ pieces_more f start n))
