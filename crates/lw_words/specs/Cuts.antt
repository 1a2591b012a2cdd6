-- What cutting bytes says: into a first line or a first word, and what stands after it.
use Rattle.std.specs.Prelude.{◌≡◌, ◌≢◌, ℕ, ◌+◌, ◌-◌, ◌<◌, ◌==◌, Bool, ◌||◌, List, [], ◌∷◌, map, length, get_or, Option, Some}
use Rattle.std.specs.Prelude.{None, Result, Ok, Err}
use Rattle.lw_grammar.specs.declared.reason.Reason.{Reason}
use Rattle.lw_grammar.specs.Lines.{lines}
use Rattle.lw_grammar.specs.Tokens.{space, quote, tokens, on_found}
use denote.Ref.{Bor}

-- what references point to
abbrev pub targets : List (Bor (List ℕ)) → List (List ℕ)
targets = map (λ r. r.now)

-- A first line, and the bytes after its line feed, if it has one.
pub record IsCutLine (bytes line behind : List ℕ) : Type 0 where
  pub lines : lines bytes ≡ line ∷ lines behind
  pub left : length behind ≡ length bytes - (length line + 1)
  pub shorter : length behind < length bytes

-- The first line and the bytes after its line feed; or nothing, where no line is left.
abbrev pub CutsLine : List ℕ → Option (Bor (List ℕ) × Bor (List ℕ)) → Type 0
CutsLine bytes None = bytes ≡ []
CutsLine bytes (Some cut) = IsCutLine bytes cut.0.now cut.1.now

-- a space, and a quote
abbrev pub is_break : ℕ → Bool
is_break b = (b == space) || (b == quote)

-- the words of what is left of a line, where something is left
abbrev pub words_left : Option (Bor (List ℕ)) → Result (List (List ℕ)) Reason
words_left None = Ok []
words_left (Some bytes) = tokens bytes.now

-- how many bytes are left, and one for the word that is due
abbrev pub size_left : Option (Bor (List ℕ)) → ℕ
size_left None = 0
size_left (Some bytes) = length bytes.now + 1

-- The first word and what stands after the space that ends it, if one does; or the fault with which the line begins.
abbrev pub CutsWord : List ℕ → Result (Bor (List ℕ) × Option (Bor (List ℕ))) Reason → Type 0
CutsWord line (Err reason) = tokens line ≡ Err reason
CutsWord line (Ok cut) =
    (tokens line ≡ on_found (λ ws. cut.0.now ∷ ws) (words_left cut.1)) × (size_left cut.1 < length line + 1)

-- a line whose first byte is no quote
abbrev pub IsWordBegun : List ℕ → Type 0
IsWordBegun line = get_or line 0 0 ≢ quote
