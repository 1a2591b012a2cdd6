-- Names in the order of their first appearance, and their places.
use Rattle.std.proofs.Common.{◌≡◌, ℕ, zero, suc, ◌+◌, ◌<◌, ◌≤◌, Bool, true, false, not, cond, ◌||◌, List, [], ◌∷◌, ◌++◌, length, map, slice_index, bytes_eq, refl, ap, ◌∙◌, arith, length-append}
use Rattle.std.specs.List.{list_any, position_or_len}
use Rattle.lw_grammar.specs.Told.{and_name, and_names, place_among}
use Rattle.std.proofs.lemmas.Bool.{false≢true, or_left, or_right}
use Rattle.std.proofs.lemmas.List.Folds.{list_any-append}
use Rattle.std.proofs.lemmas.Slice.Eq.{bytes_eq-Decides}

-- a name is the same as itself, and names that are the same are equal
pub same_name : (n : List ℕ) → bytes_eq n n ≡ true
same_name n = (bytes_eq-Decides n n).1 refl

pub equal_names : (m n : List ℕ) → bytes_eq m n ≡ true → m ≡ n
equal_names m n h = (bytes_eq-Decides m n).0 h

-- a name that is among the names stands at a place below their number
place_step : (b rest : Bool) (i k : ℕ) → (rest ≡ true → i < k) → (b || rest) ≡ true → cond (not b) (1 + i) 0 < 1 + k
place_step true rest i k h e = omega arith
place_step false rest i k h e = omega (arith, h e)

pub place_below : (p : List ℕ → Bool) (names : List (List ℕ)) → list_any p names ≡ true → position_or_len p names < length names
place_below p [] h = absurd (false≢true h)
place_below p (n ∷ ns) h =
    let r : cond (not (p n)) (1 + position_or_len p ns) 0 < 1 + length ns = place_step (p n) (list_any p ns) (position_or_len p ns) (length ns) (place_below p ns) h in
    omega (arith, r)

-- a name put at the end is among the names, and those before it are too, at their places
any_push : (p : List ℕ → Bool) (names : List (List ℕ)) (n : List ℕ) → p n ≡ true → list_any p (names ++ n ∷ []) ≡ true
any_push p names n h = list_any-append p names (n ∷ []) ∙ or_right _ _ (or_left (p n) false h)

pub any_before : (p : List ℕ → Bool) (names more : List (List ℕ)) → list_any p names ≡ true → list_any p (names ++ more) ≡ true
any_before p names more h = list_any-append p names more ∙ or_left _ _ h

pub place_before : (p : List ℕ → Bool) (names more : List (List ℕ)) → list_any p names ≡ true → position_or_len p (names ++ more) ≡ position_or_len p names
place_before p [] more h = absurd (false≢true h)
place_before p (m ∷ ms) more h = step (p m) h (place_before p ms more)
  where
    step : (b : Bool) → (b || list_any p ms) ≡ true → (list_any p ms ≡ true → position_or_len p (ms ++ more) ≡ position_or_len p ms) → cond (not b) (1 + position_or_len p (ms ++ more)) 0 ≡ cond (not b) (1 + position_or_len p ms) 0
    step true e go = refl
    step false e go = ap (λ k. 1 + k) (go e)

-- names grow
grow_one : (b : Bool) (names : List (List ℕ)) (n : List ℕ) → length names ≤ length (cond b names (names ++ n ∷ []))
grow_one true names n = omega arith
grow_one false names n = omega (arith, length-append names (n ∷ []))

pub names_grow : (names ns : List (List ℕ)) → length names ≤ length (and_names names ns)
names_grow names [] = omega arith
names_grow names (n ∷ ns) = omega (arith, grow_one (list_any (bytes_eq n) names) names n, names_grow (and_name names n) ns)

-- a name among them stays among them
keep_one : (b : Bool) (p : List ℕ → Bool) (names : List (List ℕ)) (n : List ℕ) → list_any p names ≡ true → list_any p (cond b names (names ++ n ∷ [])) ≡ true
keep_one true p names n h = h
keep_one false p names n h = any_before p names (n ∷ []) h

pub any_kept : (p : List ℕ → Bool) (names ns : List (List ℕ)) → list_any p names ≡ true → list_any p (and_names names ns) ≡ true
any_kept p names [] h = h
any_kept p names (n ∷ ns) h = any_kept p (and_name names n) ns (keep_one (list_any (bytes_eq n) names) p names n h)

-- at its place
stay_one : (b : Bool) (p : List ℕ → Bool) (names : List (List ℕ)) (n : List ℕ) → list_any p names ≡ true → position_or_len p (cond b names (names ++ n ∷ [])) ≡ position_or_len p names
stay_one true p names n h = refl
stay_one false p names n h = place_before p names (n ∷ []) h

pub place_kept : (p : List ℕ → Bool) (names ns : List (List ℕ)) → list_any p names ≡ true → position_or_len p (and_names names ns) ≡ position_or_len p names
place_kept p names [] h = refl
place_kept p names (n ∷ ns) h =
    place_kept p (and_name names n) ns (keep_one (list_any (bytes_eq n) names) p names n h) ∙ stay_one (list_any (bytes_eq n) names) p names n h

-- a further name is among them
pub one_named : (names : List (List ℕ)) (n : List ℕ) → list_any (bytes_eq n) (and_name names n) ≡ true
one_named names n = go (list_any (bytes_eq n) names) refl
  where
    go : (b : Bool) → list_any (bytes_eq n) names ≡ b → list_any (bytes_eq n) (cond b names (names ++ n ∷ [])) ≡ true
    go true e = e
    go false e = any_push (bytes_eq n) names n (same_name n)

-- each of these names is among the names
abbrev pub AreNamed : List (List ℕ) → List (List ℕ) → Type 0
AreNamed names [] = Unit {0}
AreNamed names (n ∷ ns) = (list_any (bytes_eq n) names ≡ true) × AreNamed names ns

-- so is each of further ones
pub all_named : (names ns : List (List ℕ)) → AreNamed (and_names names ns) ns
all_named names [] = tt
all_named names (n ∷ ns) = (any_kept (bytes_eq n) (and_name names n) ns (one_named names n), all_named (and_name names n) ns)

-- the places of names lie below the number of names
pub places_below : (names ns : List (List ℕ)) → AreNamed names ns → (i : ℕ) → i < length ns → slice_index (map (place_among names) ns) i < length names
places_below names [] h i low = absurd (omega arith)
places_below names (n ∷ ns) h zero low = place_below (bytes_eq n) names h.0
places_below names (n ∷ ns) h (suc i) low = places_below names ns h.1 i (omega arith)
