-- The first word of a line, by the place of the byte that ends it.
use Rattle.std.proofs.Common.{◌≡◌, ℕ, zero, suc, ◌+◌, ◌-◌, ◌<◌, ◌≤◌, ◌==◌, Bool, true, false, not, ◌||◌, cond, List, [], ◌∷◌, ◌++◌, append_assoc, Bor, length, take, drop, get_or, Some, None, Result, Ok, Err, position, refl, sym, ap, subst, ◌∙◌, arith, one-add, length-drop}
use Rattle.std.specs.List.{onto_first, position_or_len}
use Rattle.lw_grammar.specs.declared.reason.Reason.{Reason}
use Rattle.lw_grammar.specs.declared.reason.Reason.TheVariants.{Spacing, Quote}
use Rattle.lw_grammar.specs.Tokens.{ends_text, on_found, tokens_at, tokens}
use Rattle.lw_words.specs.Cuts.{is_break, IsWordBegun, targets}
use Rattle.lw_words.proofs.Targets.{targets_push}
use Rattle.lw_words.proofs.CutLines.{found_at, found_none, two_up}
use Rattle.std.proofs.lemmas.Bool.{eqb-true, eq-eqb, ne_eqb, false≢true, true≢false}
use Rattle.std.proofs.lemmas.List.{take_rest}
use Rattle.std.proofs.lemmas.List.Quantifiers.{position-Some}

-- what a word's end gives: at a space the word and the words after it, else a fault
abbrev word_then : Bool → List ℕ → Result (List (List ℕ)) Reason → Result (List (List ℕ)) Reason
word_then space word behind = cond space (on_found (λ ws. word ∷ ws) behind) (Err Quote)

-- a byte put before the word
onto_word : (b : ℕ) (w : List ℕ) (c : Bool) (o : Result (List (List ℕ)) Reason) → on_found (onto_first b) (word_then c w o) ≡ word_then c (b ∷ w) o
onto_word b w true (Ok ws) = refl
onto_word b w true (Err r) = refl
onto_word b w false o = refl

-- the first word, where a byte at place k ends it
abbrev EndsAt : List ℕ → ℕ → Type 0
EndsAt bs k =
    k < length bs → tokens_at false bs ≡ word_then (get_or bs k 0 == 32) (take k bs) (tokens_at true (drop (k + 1) bs))

-- with a byte put before it
ends_step : (b : ℕ) (bs : List ℕ) (s q : Bool) (k : ℕ) → (b == 32) ≡ s → EndsAt bs k → cond (not (s || q)) (1 + k) 0 < suc (length bs) → cond s (on_found (λ ws. [] ∷ ws) (tokens_at true bs)) (cond q (Err Quote) (on_found (onto_first b) (tokens_at false bs))) ≡ word_then (get_or (b ∷ bs) (cond (not (s || q)) (1 + k) 0) 0 == 32) (take (cond (not (s || q)) (1 + k) 0) (b ∷ bs)) (tokens_at true (drop (cond (not (s || q)) (1 + k) 0 + 1) (b ∷ bs)))
ends_step b bs true q k e h lt = rw e refl
ends_step b bs false true k e h lt = rw e refl
ends_step b bs false false k e h lt =
    let f : tokens_at false bs ≡ word_then (get_or bs k 0 == 32) (take k bs) (tokens_at true (drop (k + 1) bs)) = h (omega arith) in
    let P : ℕ → ℕ → Type 0 = λ i j. on_found (onto_first b) (tokens_at false bs) ≡ word_then (get_or (b ∷ bs) i 0 == 32) (take i (b ∷ bs)) (tokens_at true (drop j (b ∷ bs))) in
    let g : P (suc k) (suc (k + 1)) = ap (on_found (onto_first b)) f ∙ onto_word b (take k bs) (get_or bs k 0 == 32) (tokens_at true (drop (k + 1) bs)) in
    let Q : ℕ → Type 0 = λ i. P i (suc (k + 1)) in
    let R : ℕ → Type 0 = λ j. P (1 + k) j in
    subst R (sym (two_up k)) (subst Q (sym (one-add k)) g)

-- the first word, by the place of the byte that ends it
ends_at : (bs : List ℕ) → EndsAt bs (position_or_len is_break bs)
ends_at [] h = absurd (omega arith)
ends_at (b ∷ bs) h = ends_step b bs (b == 32) (b == 34) (position_or_len is_break bs) refl (ends_at bs) h

-- the last word with a byte put before it
last_step : (b : ℕ) (bs : List ℕ) (s q : Bool) (k : ℕ) (o : Result (List (List ℕ)) Reason) → (length bs ≤ k → tokens_at false bs ≡ Ok (bs ∷ [])) → suc (length bs) ≤ cond (not (s || q)) (1 + k) 0 → cond s o (cond q (Err Quote) (on_found (onto_first b) (tokens_at false bs))) ≡ Ok ((b ∷ bs) ∷ [])
last_step b bs true q k o h le = absurd (omega arith)
last_step b bs false true k o h le = absurd (omega arith)
last_step b bs false false k o h le = ap (on_found (onto_first b)) (h (omega arith))

-- the last word is all that is left
whole_word : (bs : List ℕ) → length bs ≤ position_or_len is_break bs → tokens_at false bs ≡ Ok (bs ∷ [])
whole_word [] h = refl
whole_word (b ∷ bs) h =
    last_step b bs (b == 32) (b == 34) (position_or_len is_break bs) (on_found (λ ws. [] ∷ ws) (tokens_at true bs)) (whole_word bs) h

-- a line that begins with neither a space nor a quote begins a word or goes on with it alike
begin_word : (b : ℕ) (bs : List ℕ) (s q : Bool) → s ≡ false → q ≡ false → (x : Result (List (List ℕ)) Reason) → (y : Result (List (List ℕ)) Reason) → (z : Result (List (List ℕ)) Reason) → cond s (Err Spacing) (cond q x (on_found (onto_first b) (tokens_at false bs))) ≡ cond s y (cond q z (on_found (onto_first b) (tokens_at false bs)))
begin_word b bs s q e f x y z = rw (e, f) refl

-- the last word of a line that doesn't begin with a quote
pub last_word : (bs : List ℕ) → 0 < length bs → IsWordBegun bs → position is_break bs ≡ None → tokens bs ≡ Ok (bs ∷ [])
last_word [] lt q e = absurd (omega arith)
last_word (b ∷ bs) lt q e =
    let far = found_none is_break (b ∷ bs) e in
    go (b == 32) refl far
  where
    go : (s : Bool) → (b == 32) ≡ s → suc (length bs) ≤ cond (not (s || (b == 34))) (1 + position_or_len is_break bs) 0 → tokens (b ∷ bs) ≡ Ok ((b ∷ bs) ∷ [])
    go true d le = absurd (omega arith)
    go false d le = begin_word b bs (b == 32) (b == 34) d (ne_eqb b 34 q) _ _ _ ∙ whole_word (b ∷ bs) (found_none is_break (b ∷ bs) e)

-- the byte that ends a word
ended_by : (bs : List ℕ) (i : ℕ) → position is_break bs ≡ Some i → tokens_at false bs ≡ word_then (get_or bs i 0 == 32) (take i bs) (tokens_at true (drop (i + 1) bs))
ended_by bs i e =
    let f = found_at is_break bs i e in
    let P : ℕ → Type 0 = λ k. EndsAt bs k in
    subst P f.1 (ends_at bs) f.0

-- a word that has some byte and begins with no quote
begun : (bs : List ℕ) (i : ℕ) → position is_break bs ≡ Some i → 0 < i → IsWordBegun bs → tokens bs ≡ tokens_at false bs
begun [] i e lt q = absurd (no_place i e)
  where
    no_place : (i : ℕ) → position is_break [] ≡ Some i → ⊥
    no_place i e = let f = (found_at is_break [] i e).0 in omega arith
begun (b ∷ bs) i e lt q = go (b == 32) refl (found_at is_break (b ∷ bs) i e).1
  where
    go : (s : Bool) → (b == 32) ≡ s → cond (not (s || (b == 34))) (1 + position_or_len is_break bs) 0 ≡ i → tokens (b ∷ bs) ≡ tokens_at false (b ∷ bs)
    go true d f = absurd (omega arith)
    go false d f = begin_word b bs (b == 32) (b == 34) d (ne_eqb b 34 q) _ _ _

-- a quote is no space
quote_only : (b : ℕ) → b ≡ 34 → (b == 32) ≡ false
quote_only b e = rw e refl

-- what is no quote is a space
space_only : (s q : Bool) → q ≡ false → (s || q) ≡ true → s ≡ true
space_only true q e f = refl
space_only false true e f = absurd (true≢false e)
space_only false false e f = absurd (false≢true f)

-- a word with a quote inside
pub quote_inside : (bs : List ℕ) (i : ℕ) → position is_break bs ≡ Some i → IsWordBegun bs → get_or bs i 0 ≡ 34 → tokens bs ≡ Err Quote
quote_inside bs i e q d = go i refl
  where
    go : (k : ℕ) → i ≡ k → tokens bs ≡ Err Quote
    go zero f =
        let P : ℕ → Type 0 = λ k. get_or bs k 0 ≡ 34 in
        absurd (q (subst P f d))
    go (suc k) f = begun bs i e (omega (arith, f)) q ∙ ended_by bs i e ∙ rw (quote_only (get_or bs i 0) d) refl

-- the first word and what stands after the space that ends it
pub cuts_word : (bs : List ℕ) (i : ℕ) → position is_break bs ≡ Some i → IsWordBegun bs → (get_or bs i 0 ≡ 34 → ⊥) → (i ≡ 0 → ⊥) → (tokens bs ≡ on_found (λ ws. take i bs ∷ ws) (tokens (take (length bs - (i + 1)) (drop (i + 1) bs)))) × (length (take (length bs - (i + 1)) (drop (i + 1) bs)) + 1 < length bs + 1)
cuts_word bs i e q d some =
    let f = found_at is_break bs i e in
    let t : take (length bs - (i + 1)) (drop (i + 1) bs) ≡ drop (i + 1) bs = take_rest bs (i + 1) in
    let s : (get_or bs i 0 == 32) ≡ true = space_only _ _ (ne_eqb (get_or bs i 0) 34 d) (position-Some is_break bs i 0 e).1 in
    let g : length (drop (i + 1) bs) + 1 < length bs + 1 = omega (arith, length-drop (i + 1) bs, f.0) in
    let h : tokens bs ≡ on_found (λ ws. take i bs ∷ ws) (tokens (drop (i + 1) bs)) = begun bs i e (omega (arith, some)) q ∙ ended_by bs i e ∙ rw s refl in
    let P : List ℕ → Type 0 = λ r. (tokens bs ≡ on_found (λ ws. take i bs ∷ ws) (tokens r)) × (length r + 1 < length bs + 1) in
    subst P (sym t) (h, g)

-- numbers that are equal together
same_test : (a b c d : ℕ) → (a ≡ b → c ≡ d) → (c ≡ d → a ≡ b) → (a == b) ≡ (c == d)
same_test a b c d f g = go (a == b) (c == d) refl refl
  where
    go : (t u : Bool) → (a == b) ≡ t → (c == d) ≡ u → (a == b) ≡ (c == d)
    go true true x y = x ∙ sym y
    go false false x y = x ∙ sym y
    go true false x y = let e : true ≡ false = sym (eq-eqb c d (f (eqb-true _ _ x))) ∙ y in absurd (true≢false e)
    go false true x y = let e : true ≡ false = sym (eq-eqb a b (g (eqb-true _ _ y))) ∙ x in absurd (true≢false e)

-- the bytes after a text's first quote, by the place of the next
text_step : (q : Bool) (e : Bool) (k n : ℕ) → e ≡ (k + 1 == suc n) → cond q false e ≡ (cond (not q) (1 + k) 0 + 1 == suc (suc n))
text_step true e k n h = same_test 0 1 (0 + 1) (suc (suc n)) (λ d. absurd (omega arith)) (λ d. absurd (omega arith))
text_step false e k n h = h ∙ same_test (k + 1) (suc n) ((1 + k) + 1) (suc (suc n)) (λ d. omega arith) (λ d. omega arith)

-- a text that has one byte more
text_last : (q : Bool) → q ≡ (cond (not q) (1 + 0) 0 + 1 == 1)
text_last true = refl
text_last false = refl

-- a text ends where the next quote is the last byte
pub text_end : (bs : List ℕ) → ends_text bs ≡ (position_or_len (λ b. b == 34) bs + 1 == length bs)
text_end [] = refl
text_end (b ∷ []) = text_last (b == 34)
text_end (b ∷ c ∷ bs) =
    text_step (b == 34) (ends_text (c ∷ bs)) (position_or_len (λ b. b == 34) (c ∷ bs)) (length bs) (text_end (c ∷ bs))

-- without a further quote no text ends
pub no_text_end : (bs : List ℕ) → position (λ b. b == 34) bs ≡ None → ends_text bs ≡ false
no_text_end bs e =
    let far = found_none (λ b. b == 34) bs e in
    text_end bs ∙ go (position_or_len (λ b. b == 34) bs + 1 == length bs) refl far
  where
    go : (t : Bool) → (position_or_len (λ b. b == 34) bs + 1 == length bs) ≡ t → length bs ≤ position_or_len (λ b. b == 34) bs → t ≡ false
    go true d le = let f : position_or_len (λ b. b == 34) bs + 1 ≡ length bs = eqb-true _ _ d in absurd (omega arith)
    go false d le = refl

-- a text ends at the place of its next quote
pub text_end_at : (bs : List ℕ) (i : ℕ) → position (λ b. b == 34) bs ≡ Some i → ends_text bs ≡ (i + 1 == length bs)
text_end_at bs i e =
    let f = found_at (λ b. b == 34) bs i e in
    text_end bs ∙ ap (λ k. k + 1 == length bs) f.1

-- nothing is found yet
pub none_found : (words : Result (List (List ℕ)) Reason) (found : List (Bor (List ℕ))) → found ≡ [] → words ≡ on_found (λ ws. targets found ++ ws) words
none_found (Ok ws) found e = rw e refl
none_found (Err r) found e = refl

-- the words found with a further one
pub more_words : (words : Result (List (List ℕ)) Reason) (found : List (Bor (List ℕ))) (word : Bor (List ℕ)) (o p : Result (List (List ℕ)) Reason) → words ≡ on_found (λ ws. targets found ++ ws) o → o ≡ on_found (λ ws. word.now ∷ ws) p → words ≡ on_found (λ ws. targets (found ++ word ∷ []) ++ ws) p
more_words words found word o (Ok ws) e f =
    e ∙ ap (on_found (λ ws. targets found ++ ws)) f ∙ ap Ok (sym (append_assoc (targets found) (word.now ∷ []) ws) ∙ ap (λ ns. ns ++ ws) (sym (targets_push found word)))
more_words words found word o (Err r) e f = e ∙ ap (on_found (λ ws. targets found ++ ws)) f
