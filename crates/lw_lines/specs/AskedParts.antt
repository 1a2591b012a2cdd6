-- For private contracts.
-- The line of a creation or an opening in parts.
use Rattle.std.specs.Prelude.{ℕ, ℤ, List, Option, option_and_then}
use Rattle.lw_calls.specs.declared.make.Kind.{Kind}
use Rattle.lw_calls.specs.declared.make.Place.{Place}
use Rattle.lw_grammar.specs.Tokens.{Token}
use Rattle.lw_grammar.specs.Statements.{Statement, four_numbers, kind_of, place_of}

-- what stands after the bounds or the box of a layer that is asked for, where these words are to be the kind and the place
abbrev pub with_words
    : {A : Type 0} → (List ℕ → Place → A → List Token → Kind → Option Statement) → List ℕ → List ℕ → List ℕ → A
    → List Token → Option Statement
with_words rest l k p at ts = option_and_then (λ place. option_and_then (rest l place at ts) (kind_of k)) (place_of p)

-- what is made of four numbers, and what stands after them
abbrev pub with_numbers
    : {A : Type 0} → (ℤ → ℤ → ℤ → ℤ → A) → (A → List Token → Option Statement) → List Token → Option Statement
with_numbers make rest ts = option_and_then (λ taken. rest taken.0 taken.1) (four_numbers make ts)
