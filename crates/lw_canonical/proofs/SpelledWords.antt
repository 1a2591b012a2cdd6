-- The words of a line, and what each of them is, give back the line's bytes.
use Rattle.std.proofs.Common.{◌≡◌, ℕ, ◌<◌, ◌==◌, Bool, true, false, cond, List, [], ◌∷◌, ◌++◌, map, drop, unsigned_abs, Result, Ok, Err, refl, sym, ap, ◌∙◌}
use Rattle.std.specs.List.{onto_first}
use Rattle.std.specs.Result.{IfOk}
use Rattle.std.specs.Fmt.{signed_decimal}
use Rattle.lw_grammar.specs.declared.reason.Reason.{Reason}
use Rattle.lw_grammar.specs.declared.reason.Reason.TheVariants.{Spacing, Quote}
use Rattle.lw_grammar.specs.Tokens.{space, quote, ends_text, on_found, tokens_at, tokens, Token, NameToken, NumberToken, TextToken, OddToken, is_a_name, is_a_number, is_a_text, cap, value_of_number, without_last, token_of}
use Rattle.lw_canonical.specs.Spelling.{joined, text_word}
use Rattle.lw_canonical.proofs.SpelledNumbers.{number_spelled}
use Rattle.std.proofs.lemmas.Bool.{true≢false, false≢true, eqb-true}

-- a word that begins with a quote is a text
abbrev pub IsWord : List ℕ → Type 0
IsWord w = is_a_text w ≡ true → text_word (without_last (drop 1 w)) ≡ w

abbrev pub AreWords : List (List ℕ) → Type 0
AreWords [] = Unit {0}
AreWords (w ∷ ws) = IsWord w × AreWords ws

-- these are the words of bytes
abbrev pub AreWordsOf : List ℕ → List (List ℕ) → Type 0
AreWordsOf bs [] = ⊥
AreWordsOf bs (w ∷ ws) = (joined (w ∷ ws) ≡ bs) × AreWords (w ∷ ws)

-- a text ends with its quote
text_ends : (bs : List ℕ) → ends_text bs ≡ true → without_last bs ++ quote ∷ [] ≡ bs
text_ends [] e = absurd (false≢true e)
text_ends (b ∷ []) e = ap (λ c. c ∷ []) (sym (eqb-true b quote e))
text_ends (b ∷ c ∷ bs) e = step (b == quote) e (λ d. text_ends (c ∷ bs) d)
  where
    step : (t : Bool) → cond t false (ends_text (c ∷ bs)) ≡ true → (ends_text (c ∷ bs) ≡ true → without_last (c ∷ bs) ++ quote ∷ [] ≡ c ∷ bs) → b ∷ (without_last (c ∷ bs) ++ quote ∷ []) ≡ b ∷ c ∷ bs
    step true d h = absurd (false≢true d)
    step false d h = ap (λ l. b ∷ l) (h d)

-- a word that begins with another byte
plain_word : (b : ℕ) (w : List ℕ) → (b == quote) ≡ false → IsWord (b ∷ w)
plain_word b w e t = absurd (true≢false (sym t ∙ e))

-- one byte more of the first word
more : (b : ℕ) (bs : List ℕ) → (b == quote) ≡ false → (ws : List (List ℕ)) → AreWordsOf bs ws → AreWordsOf (b ∷ bs) (onto_first b ws)
more b bs e [] h = absurd h
more b bs e (w ∷ []) h = (ap (λ l. b ∷ l) h.0, (plain_word b w e, h.1.1))
more b bs e (w ∷ v ∷ ws) h = (ap (λ l. b ∷ l) h.0, (plain_word b w e, h.1.1))

-- a space before the words
divided : (b : ℕ) (bs : List ℕ) → (b == space) ≡ true → (ws : List (List ℕ)) → AreWordsOf bs ws → AreWordsOf (b ∷ bs) ([] ∷ ws)
divided b bs e [] h = absurd h
divided b bs e (w ∷ ws) h = (ap (λ l. space ∷ l) h.0 ∙ ap (λ c. c ∷ bs) (sym (eqb-true b space e)), ((λ t. absurd (false≢true t)), h.1))

-- what is done to the words found
found_has : {A B : Type 0} (P : A → Type 0) (Q : B → Type 0) (f : A → B) (r : Result A Reason) → IfOk r P → ((a : A) → P a → Q (f a)) → IfOk (on_found f r) Q
found_has P Q f (Ok a) h k = k a h
found_has P Q f (Err e) h k = tt

-- The words of what is left of a line give it back.
words_at : (first : Bool) (bs : List ℕ) → IfOk (tokens_at first bs) (AreWordsOf bs)
words_at true [] = tt
words_at false [] = (refl, ((λ t. absurd (false≢true t)), tt))
words_at true (b ∷ bs) = at_space (b == space) (b == quote) refl (ends_text bs) refl (words_at false bs)
  where
    at_space : (t q : Bool) → (b == quote) ≡ q → (e : Bool) → ends_text bs ≡ e → IfOk (tokens_at false bs) (AreWordsOf bs) → IfOk (cond t (Err Spacing) (cond q (cond e (Ok ((b ∷ bs) ∷ [])) (Err Quote)) (on_found (onto_first b) (tokens_at false bs)))) (AreWordsOf (b ∷ bs))
    at_space true q k e d h = tt
    at_space false true k true d h =
        (refl, ((λ t. ap (λ l. quote ∷ l) (text_ends bs d) ∙ ap (λ c. c ∷ bs) (sym (eqb-true b quote k))), tt))
    at_space false true k false d h = tt
    at_space false false k e d h = found_has (AreWordsOf bs) (AreWordsOf (b ∷ bs)) (onto_first b) (tokens_at false bs) h (more b bs k)
words_at false (b ∷ bs) = at_space (b == space) refl (b == quote) refl (words_at true bs) (words_at false bs)
  where
    at_space : (t : Bool) → (b == space) ≡ t → (q : Bool) → (b == quote) ≡ q → IfOk (tokens_at true bs) (AreWordsOf bs) → IfOk (tokens_at false bs) (AreWordsOf bs) → IfOk (cond t (on_found (λ ws. [] ∷ ws) (tokens_at true bs)) (cond q (Err Quote) (on_found (onto_first b) (tokens_at false bs)))) (AreWordsOf (b ∷ bs))
    at_space true k q d g h = found_has (AreWordsOf bs) (AreWordsOf (b ∷ bs)) (λ ws. [] ∷ ws) (tokens_at true bs) g (divided b bs k)
    at_space false k true d g h = tt
    at_space false k false d g h = found_has (AreWordsOf bs) (AreWordsOf (b ∷ bs)) (onto_first b) (tokens_at false bs) h (more b bs d)

-- The words of a line give it back.
pub words_joined : (line : List ℕ) → IfOk (tokens line) (AreWordsOf line)
words_joined line = words_at true line

-- the word that is so
abbrev pub token_word : Token → List ℕ
token_word (NameToken n) = n
token_word (NumberToken v z) = v
token_word (TextToken t) = text_word t
token_word (OddToken w) = w

-- What a word is, is good for this: a name is one, and a number below the cap is written so.
abbrev pub IsToken : Token → Type 0
IsToken (NameToken n) = is_a_name n ≡ true
IsToken (NumberToken v z) = unsigned_abs z < cap → signed_decimal z ≡ v
IsToken (TextToken t) = Unit {0}
IsToken (OddToken w) = Unit {0}

abbrev pub AreTokens : List Token → Type 0
AreTokens [] = Unit {0}
AreTokens (t ∷ ts) = IsToken t × AreTokens ts

-- what a word is gives it back
token_back : (w : List ℕ) → IsWord w → token_word (token_of w) ≡ w
token_back w h = at_tests (is_a_text w) refl (is_a_name w) (is_a_number w)
  where
    at_tests : (t : Bool) → is_a_text w ≡ t → (n m : Bool) → token_word (cond t (TextToken (without_last (drop 1 w))) (cond n (NameToken w) (cond m (NumberToken w (value_of_number w)) (OddToken w)))) ≡ w
    at_tests true e n m = h e
    at_tests false e true m = refl
    at_tests false e false true = refl
    at_tests false e false false = refl

-- and is good for this
token_good : (w : List ℕ) → IsToken (token_of w)
token_good w = at_tests (is_a_text w) (is_a_name w) refl (is_a_number w) refl
  where
    at_tests : (t n : Bool) → is_a_name w ≡ n → (m : Bool) → is_a_number w ≡ m → IsToken (cond t (TextToken (without_last (drop 1 w))) (cond n (NameToken w) (cond m (NumberToken w (value_of_number w)) (OddToken w))))
    at_tests true n e m d = tt
    at_tests false true e m d = e
    at_tests false false e true d = number_spelled w d
    at_tests false false e false d = tt

-- What words are gives them back, and is good for this.
pub tokens_back : (ws : List (List ℕ)) → AreWords ws → map token_word (map token_of ws) ≡ ws
tokens_back [] h = refl
tokens_back (w ∷ ws) h = ap (λ v. v ∷ map token_word (map token_of ws)) (token_back w h.0) ∙ ap (λ vs. w ∷ vs) (tokens_back ws h.1)

pub tokens_good : (ws : List (List ℕ)) → AreTokens (map token_of ws)
tokens_good [] = tt
tokens_good (w ∷ ws) = (token_good w, tokens_good ws)
