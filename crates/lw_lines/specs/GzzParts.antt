-- For private contracts.
-- What stands after the four names of an opening of a window of two layers.
use Rattle.std.specs.Prelude.{ℕ, List, Option, option_and_then}
use Rattle.lw_grammar.specs.Tokens.{Token}
use Rattle.lw_grammar.specs.Statements.{Line, box, four_numbers, place_of, inner_kind_of, opened_gzz}

abbrev pub opened_with : List ℕ → List ℕ → List ℕ → List ℕ → List Token → Option Line
opened_with g i k p ts =
    option_and_then
    (λ n. option_and_then (λ place. option_and_then (opened_gzz g i place n.0 n.1) (inner_kind_of k)) (place_of p))
    (four_numbers box ts)
