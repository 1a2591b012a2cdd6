use Rattle.std.proofs.Common.{◌≡◌, ℕ, Bool, true, false, cond, List, [], ◌∷◌, drop, refl, ap, subst, ◌∙◌}
use Rattle.std.proofs.lemmas.Bool.{eqb-true}
use Rattle.lw_grammar.specs.Tokens.{Token, NameToken, NumberToken, TextToken, OddToken, is_a_name, is_a_number, is_a_text, value_of_number, without_last, token_of}
use Rattle.lw_top.proofs.words.is_name.Goals as goal

-- what is a name
abbrev is_named : Token → Bool
is_named (NameToken n) = true
is_named (NumberToken word z) = false
is_named (TextToken text) = false
is_named (OddToken word) = false

-- a text begins with a quote, which is no letter
no_text : (w : List ℕ) → is_a_text w ≡ true → is_a_name w ≡ true → ⊥
no_text [] e d = let same : false ≡ true = d in cc
no_text (b ∷ bs) e d =
    let same : false ≡ true = subst (λ c. is_a_name (c ∷ bs) ≡ true) (eqb-true b 34 e) d in cc

names_alone : (w : List ℕ) → is_named (token_of w) ≡ is_a_name w
names_alone w = step (is_a_text w) refl (is_a_name w) refl (is_a_number w)
  where
    step : (t : Bool) → is_a_text w ≡ t → (n : Bool) → is_a_name w ≡ n → (m : Bool)
        → is_named (cond t (TextToken (without_last (drop 1 w))) (cond n (NameToken w) (cond m (NumberToken w (value_of_number w)) (OddToken w)))) ≡ n
    step true e true d m = absurd (no_text w e d)
    step true e false d m = refl
    step false e true d m = refl
    step false e false d true = refl
    step false e false d false = refl

-- of the bytes of a text, told by what they are
told : (t : Token) (word shown : List ℕ) → t ≡ token_of shown → shown ≡ word → is_named t ≡ is_a_name word
told t word shown is same = ap is_named is ∙ names_alone shown ∙ ap is_a_name same

pub returns-in-Name : goal.returns-in-Name
returns-in-Name c = told _ c.args.word.now c.as_bytes.result.now c.in-Name.ensures c.as_bytes.ensures.value

pub returns-in-Number : goal.returns-in-Number
returns-in-Number c = told _ c.args.word.now c.as_bytes.result.now c.in-Number.ensures c.as_bytes.ensures.value

pub returns-in-Text : goal.returns-in-Text
returns-in-Text c = told _ c.args.word.now c.as_bytes.result.now c.in-Text.ensures c.as_bytes.ensures.value

pub returns-in-Odd : goal.returns-in-Odd
returns-in-Odd c = told _ c.args.word.now c.as_bytes.result.now c.in-Odd.ensures c.as_bytes.ensures.value
