-- Names that are numbered in the order of their first appearance.
use Rattle.std.proofs.Common.{◌≡◌, ℕ, ◌+◌, Bool, true, false, cond, List, [], ◌∷◌, ◌++◌, length, map, bytes_eq, eqb, Bor, refl, sym, ap, ◌∙◌, arith}
use Rattle.std.specs.List.{list_any, position_or_len}
use Rattle.lw_grammar.specs.Told.{and_name, and_names, place_among}
use Rattle.lw_grammar.proofs.ScriptNames.{same_name, place_kept, one_named}
use Rattle.lw_words.specs.Cuts.{targets}
use Rattle.lw_words.proofs.Targets.{targets_push, any_target}
use Rattle.std.proofs.lemmas.Bool.{eqb-true}
use Rattle.std.proofs.lemmas.List.Folds.{position_or_len_push}

-- names with a further one, kept as references
choice : (b : Bool) (ks : List (Bor (List ℕ))) (k : Bor (List ℕ)) → targets (cond b ks (ks ++ k ∷ [])) ≡ cond b (targets ks) (targets ks ++ k.now ∷ [])
choice true ks k = refl
choice false ks k = targets_push ks k

-- a name that is put in, as reference and as target
pub targets_insert : (ks : List (Bor (List ℕ))) (k : Bor (List ℕ)) → targets (cond (list_any (λ (j : Bor (List ℕ)). bytes_eq k.now j.now) ks) ks (ks ++ k ∷ [])) ≡ and_name (targets ks) k.now
targets_insert ks k =
    choice (list_any (λ (j : Bor (List ℕ)). bytes_eq k.now j.now) ks) ks k ∙ ap (λ b. cond b (targets ks) (targets ks ++ k.now ∷ [])) (any_target (bytes_eq k.now) ks)

-- a name put at the end stands where no earlier one does
behind : (p : List ℕ → Bool) (ns : List (List ℕ)) (n : List ℕ) → p n ≡ true → position_or_len p (ns ++ n ∷ []) ≡ position_or_len p ns
behind p ns n e =
    let f : position_or_len p (ns ++ n ∷ []) ≡ cond (eqb (position_or_len p ns) (length ns)) (length ns + cond (p n) 0 1) (position_or_len p ns) = position_or_len_push p ns n in
    f ∙ go (eqb (position_or_len p ns) (length ns)) refl
  where
    go : (b : Bool) → eqb (position_or_len p ns) (length ns) ≡ b → cond b (length ns + cond (p n) 0 1) (position_or_len p ns) ≡ position_or_len p ns
    go true t = let d : position_or_len p ns ≡ length ns = eqb-true _ _ t in rw e (omega (arith, d))
    go false t = refl

-- a name's place is the same before and after it is put at the end
pub place_stays : (ns : List (List ℕ)) (n : List ℕ) → place_among (and_name ns n) n ≡ place_among ns n
place_stays ns n = go (list_any (bytes_eq n) ns)
  where
    go : (b : Bool) → position_or_len (bytes_eq n) (cond b ns (ns ++ n ∷ [])) ≡ position_or_len (bytes_eq n) ns
    go true = refl
    go false = behind (bytes_eq n) ns n (same_name n)

-- the places of one name, and of two, among the names with them
pub place_of_one : (ns : List (List ℕ)) (l : List ℕ) (s : ℕ) → s ≡ place_among ns l → map (place_among (and_names ns (l ∷ []))) (l ∷ []) ≡ s ∷ []
place_of_one ns l s e = ap (λ p. p ∷ []) (place_stays ns l ∙ sym e)

pub places_of_two : (ns : List (List ℕ)) (l m : List ℕ) (s o : ℕ) → s ≡ place_among ns l → o ≡ place_among (and_name ns l) m → map (place_among (and_names ns (l ∷ m ∷ []))) (l ∷ m ∷ []) ≡ s ∷ o ∷ []
places_of_two ns l m s o e f =
    ap (λ p. p ∷ place_among (and_name (and_name ns l) m) m ∷ []) (place_kept (bytes_eq l) (and_name ns l) (m ∷ []) (one_named ns l) ∙ place_stays ns l ∙ sym e) ∙ ap (λ p. s ∷ p ∷ []) (place_stays (and_name ns l) m ∙ sym f)

-- a new name that is put in stands at the end
pub name_added : (ks : List (Bor (List ℕ))) (k : Bor (List ℕ)) → list_any (bytes_eq k.now) (targets ks) ≡ false → targets (cond (list_any (λ (j : Bor (List ℕ)). bytes_eq k.now j.now) ks) ks (ks ++ k ∷ [])) ≡ targets ks ++ k.now ∷ []
name_added ks k new = targets_insert ks k ∙ rw new refl
