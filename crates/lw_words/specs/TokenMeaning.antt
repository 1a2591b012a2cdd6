-- What a token of the reader means.
use Rattle.lw_grammar.specs.Tokens.{Token as Meaning, NameToken, NumberToken, TextToken, OddToken}
use Rattle.lw_words.specs.declared.token.Token.{Token}
use Rattle.lw_words.specs.declared.token.Token.TheVariants.{Name, Number, Text, Odd}

-- words by their bytes, and all else as it stands
abbrev pub token_meaning : Token → Meaning
token_meaning (Name n) = NameToken n.now
token_meaning (Number n z) = NumberToken n.now z
token_meaning (Text t) = TextToken t.now
token_meaning (Odd n) = OddToken n.now
