-- The words of a pattern, one after another.
use Rattle.std.proofs.Common.{◌≡◌, ℕ, suc, ◌+◌, ◌<◌, Bool, true, false, List, [], ◌∷◌, ◌++◌, length, map, drop, get_or, drop-cons, add-one, append_assoc, Option, Some, None, option_map, refl, sym, ap, subst, ◌∙◌}
use Rattle.std.specs.Option.{option_and_then}
use Rattle.lw_area.specs.Patterns.{is_pattern_count, IsPattern}
use Rattle.lw_grammar.specs.Tokens.{Token, NameToken, bytes_in}
use Rattle.lw_grammar.specs.Statements.{PatternLine, pattern_word, pattern_words, pattern_line}
use Rattle.lw_words.specs.declared.token.Token.{Token as Reading}
use Rattle.lw_words.specs.TokenMeaning.{token_meaning}

-- a word more, before those of the tokens that are left
with_word : (old : List ℕ) (w : ℕ) (t : Token) (ts : List Token) → Some w ≡ pattern_word (bytes_in 2 t) → option_map (λ ws. old ++ ws) (pattern_words (t ∷ ts)) ≡ option_map (λ ws. (old ++ w ∷ []) ++ ws) (pattern_words ts)
with_word old w t ts e = rw (← e) (go (pattern_words ts))
  where
    go : (o : Option (List ℕ)) → option_map (λ ws. old ++ ws) (option_map (λ ws. w ∷ ws) o) ≡ option_map (λ ws. (old ++ w ∷ []) ++ ws) o
    go None = refl
    go (Some ws) = ap Some (sym (append_assoc old (w ∷ []) ws))

pub more_words : (ts : List Reading) (i w : ℕ) (old : List ℕ) (d : Reading) → i < length ts → Some w ≡ pattern_word (bytes_in 2 (token_meaning (get_or ts i d))) → option_map (λ ws. old ++ ws) (pattern_words (map token_meaning (drop i ts))) ≡ pattern_words (map token_meaning ts) → option_map (λ ws. (old ++ w ∷ []) ++ ws) (pattern_words (map token_meaning (drop (i + 1) ts))) ≡ pattern_words (map token_meaning ts)
more_words ts i w old d lt e h =
    let f : drop i ts ≡ get_or ts i d ∷ drop (i + 1) ts = rw add-one (drop-cons ts i d lt) in
    let P : List Reading → Type 0 = λ rs. option_map (λ ws. old ++ ws) (pattern_words (map token_meaning rs)) ≡ pattern_words (map token_meaning ts) in
    sym (with_word old w (token_meaning (get_or ts i d)) (map token_meaning (drop (i + 1) ts)) e) ∙ subst P f h

-- there are as many words as tokens
words_long : (ts : List Token) (ws : List ℕ) → pattern_words ts ≡ Some ws → length ws ≡ length ts
words_long [] ws e = let same : [] ≡ ws = cc in ap length (sym same)
words_long (t ∷ ts) ws e = go (pattern_word (bytes_in 2 t)) (pattern_words ts) (words_long ts) ws e
  where
    go : (v : Option ℕ) (o : Option (List ℕ)) → ((us : List ℕ) → o ≡ Some us → length us ≡ length ts) → (ws : List ℕ) → option_and_then (λ w. option_map (λ us. w ∷ us) o) v ≡ Some ws → length ws ≡ length (t ∷ ts)
    go None o h ws e = absurd (cc)
    go (Some w) None h ws e = absurd (cc)
    go (Some w) (Some us) h ws e =
        let same : w ∷ us ≡ ws = cc in ap length (sym same) ∙ ap (λ n. suc n) (h us refl)

-- what is found of a list that was found
pub words_found : {A B : Type 0} (f : A → B) (o : Option A) (a : A) (r : Option B) → o ≡ Some a → option_map f o ≡ r → Some (f a) ≡ r
words_found f o a r e h = ap (option_map f) (sym e) ∙ h

-- a line whose words are no pattern, and one whose words are one
pub no_pattern : (name : List ℕ) (ts : List Token) (ws : List ℕ) → Some ws ≡ pattern_words ts → (IsPattern ws → ⊥) → None ≡ pattern_line (NameToken name ∷ ts)
no_pattern name ts ws e h = rw (sym (ap is_pattern_count (words_long ts ws (sym e))) ∙ not_true (is_pattern_count (length ws)) h) refl
  where
    not_true : (b : Bool) → (b ≡ true → ⊥) → b ≡ false
    not_true true k = absurd (k refl)
    not_true false k = refl

pub pattern_made : (name : List ℕ) (ts : List Token) (ws pattern : List ℕ) → Some ws ≡ pattern_words ts → IsPattern ws → pattern ≡ ws → Some (PatternLine name pattern) ≡ pattern_line (NameToken name ∷ ts)
pattern_made name ts ws pattern e k same = rw (sym (ap is_pattern_count (words_long ts ws (sym e))) ∙ k, ← e, same) refl
