use Rattle.std.proofs.Common.{◌≡◌, ◌++◌, map, drop, option_map}
use Rattle.lw_grammar.specs.Statements.{all_numbers}
use Rattle.lw_words.specs.TokenMeaning.{token_meaning}
use Rattle.lw_lines.proofs.lines_parts.numbers_of.Given as goal

-- the numbers so far, before those of the tokens that are left
abbrev pub invariant-loop-token : goal.invariant-loop-token
invariant-loop-token l =
    option_map (λ zs. l.numbers.items ++ zs) (all_numbers (map token_meaning (drop l.token-index l.tokens))) ≡ all_numbers (map token_meaning l.tokens)
