use Rattle.std.proofs.Common.{◌≡◌, ◌++◌, map, drop, option_map}
use Rattle.lw_grammar.specs.Statements.{pattern_words}
use Rattle.lw_words.specs.TokenMeaning.{token_meaning}
use Rattle.lw_lines.proofs.lines_parts.pattern_words.Given as goal

-- the words so far, before those of the tokens that are left
abbrev pub invariant-loop-token : goal.invariant-loop-token
invariant-loop-token l =
    option_map (λ ws. l.words.items ++ ws) (pattern_words (map token_meaning (drop l.token-index l.tokens))) ≡ pattern_words (map token_meaning l.tokens)
