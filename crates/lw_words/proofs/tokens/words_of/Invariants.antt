use Rattle.std.proofs.Common.{◌≡◌, ◌++◌}
use Rattle.lw_grammar.specs.Tokens.{tokens, on_found}
use Rattle.lw_words.specs.Cuts.{targets, words_left, size_left}
use Rattle.lw_words.proofs.tokens.words_of.Given as goal

-- the words found, before those of what is left, are the line's words
abbrev pub invariant-loop-rest : goal.invariant-loop-rest
invariant-loop-rest l = tokens l.line ≡ on_found (λ ws. targets l.words.items ++ ws) (words_left l.rest)

abbrev pub decreases-loop-rest : goal.decreases-loop-rest
decreases-loop-rest l = size_left l.rest
