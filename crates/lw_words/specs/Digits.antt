-- Hexadecimal digits, and the bytes that they spell.
use Rattle.std.specs.Prelude.{ℕ, ◌+◌, ◌*◌, List, [], ◌∷◌, Option, Some, None}
use Rattle.lw_grammar.specs.Tokens.{Token, NameToken, NumberToken, TextToken, OddToken, hex_value}

-- the bytes that digits spell, two digits a byte
abbrev pub decoded : List ℕ → List ℕ
decoded [] = []
decoded (a ∷ []) = []
decoded (a ∷ b ∷ rest) = ((hex_value a * 16) + hex_value b) ∷ decoded rest

-- the word that a token is, unless it is a text
abbrev pub spelling : Token → Option (List ℕ)
spelling (NameToken word) = Some word
spelling (NumberToken word z) = Some word
spelling (TextToken text) = None
spelling (OddToken word) = Some word
