use Rattle.std.proofs.Common.{◌≡◌, map, take}
use Rattle.lw_grammar.specs.Tokens.{token_of}
use Rattle.lw_words.specs.Cuts.{targets}
use Rattle.lw_words.specs.TokenMeaning.{token_meaning}
use Rattle.lw_words.proofs.token.tokens_of.Given as goal

abbrev pub invariant-loop-word : goal.invariant-loop-word
invariant-loop-word l = map token_meaning l.tokens.items ≡ map token_of (targets (take l.word-index l.words))
