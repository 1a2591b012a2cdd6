-- The words of a line of a script, and what a word is (docs/FORMATS.md has it).
use Rattle.std.specs.Prelude.{ℕ, ◌+◌, ◌-◌, ◌*◌, ◌==◌, Bool, true, false, ◌&&◌, ◌||◌, nat_le, min, if◌then◌else◌, List, [], ◌∷◌}
use Rattle.std.specs.Prelude.{length, drop, ℤ, pos, neg_ℤ, codes, bytes_eq, Option, Some, None, option_map, Result, Ok, Err}
use Rattle.std.specs.List.{onto_first, list_all}
use Rattle.std.specs.Str.Parse.{digits_value}
use Rattle.lw_grammar.specs.declared.reason.Reason.{Reason}
use Rattle.lw_grammar.specs.declared.reason.Reason.TheVariants.{Spacing, Quote}

-- the byte that divides words
abbrev pub space : ℕ
space = 32

-- the byte that begins and ends a text
abbrev pub quote : ℕ
quote = 34

-- what stands after the first byte of a text: bytes without a quote, and then the quote as the last one
abbrev pub ends_text : List ℕ → Bool
ends_text [] = false
ends_text (b ∷ []) = b == quote
ends_text (b ∷ c ∷ bs) = if b == quote then false else ends_text (c ∷ bs)

-- what is found, with something done to it
abbrev pub on_found : {A B R : Type 0} → (A → B) → Result A R → Result B R
on_found f (Ok a) = Ok (f a)
on_found f (Err r) = Err r

-- The words of what is left of a line, where the next byte begins a word (true) or goes on with one (false); or the
-- leftmost fault. Words are divided by exactly one space. A text begins with a quote and is the last word; its fault is at
-- that quote.
abbrev pub tokens_at : Bool → List ℕ → Result (List (List ℕ)) Reason
tokens_at true [] = Err Spacing
tokens_at false [] = Ok ([] ∷ [])
tokens_at true (b ∷ bs) =
    if b == space then Err Spacing
    else (if b == quote then (if ends_text bs then Ok ((b ∷ bs) ∷ []) else Err Quote)
    else on_found (onto_first b) (tokens_at false bs))
tokens_at false (b ∷ bs) =
    if b == space then on_found (λ ws. [] ∷ ws) (tokens_at true bs)
    else (if b == quote then Err Quote else on_found (onto_first b) (tokens_at false bs))

-- the words of a line, or its leftmost fault of spacing or quotes
abbrev pub tokens : List ℕ → Result (List (List ℕ)) Reason
tokens line = tokens_at true line

-- What a word is: a name, a number, a text by the bytes between its quotes, or none of these.
pub data Token : Type 0 where
  NameToken : List ℕ → Token
  NumberToken : List ℕ → ℤ → Token
  TextToken : List ℕ → Token
  OddToken : List ℕ → Token

-- a letter of ASCII, large or small
abbrev pub is_a_letter : ℕ → Bool
is_a_letter b = (nat_le 65 b && nat_le b 90) || (nat_le 97 b && nat_le b 122)

-- a decimal digit
abbrev pub is_a_digit : ℕ → Bool
is_a_digit b = nat_le 48 b && nat_le b 57

-- a letter, a digit or an underscore
abbrev pub is_in_name : ℕ → Bool
is_in_name b = (is_a_letter b || is_a_digit b) || (b == 95)

-- A name has 1 to 16 bytes: a letter, and then letters, digits or underscores.
abbrev pub is_a_name : List ℕ → Bool
is_a_name [] = false
is_a_name (b ∷ bs) = (is_a_letter b && list_all is_in_name bs) && nat_le (length bs) 15

-- a digit from 1 to 9, and then digits
abbrev pub is_above_zero : List ℕ → Bool
is_above_zero [] = false
is_above_zero (b ∷ bs) = (nat_le 49 b && nat_le b 57) && list_all is_a_digit bs

-- the same after a minus
abbrev pub is_below_zero : List ℕ → Bool
is_below_zero [] = false
is_below_zero (b ∷ bs) = (b == 45) && is_above_zero bs

-- A number is 0, or an optional minus, a digit from 1 to 9, and then digits.
abbrev pub is_a_number : List ℕ → Bool
is_a_number word = bytes_eq word (codes "0") || (is_above_zero word || is_below_zero word)

-- Every range of a script ends before this number on both sides of 0, so a number that is farther from 0 is out of
-- range whether it is capped here or not.
abbrev pub cap : ℕ
cap = 4294967296

-- how far a number is from 0, up to the cap
abbrev pub capped : List ℕ → ℕ
capped digits = min (digits_value 10 digits) cap

-- what a number counts
abbrev pub value_of_number : List ℕ → ℤ
value_of_number word = if is_below_zero word then neg_ℤ (pos (capped (drop 1 word))) else pos (capped word)

-- the bytes without the last one
abbrev pub without_last : List ℕ → List ℕ
without_last [] = []
without_last (b ∷ []) = []
without_last (b ∷ c ∷ bs) = b ∷ without_last (c ∷ bs)

-- the word begins with a quote, so it is a text
abbrev pub is_a_text : List ℕ → Bool
is_a_text [] = false
is_a_text (b ∷ bs) = b == quote

-- what a word is
abbrev pub token_of : List ℕ → Token
token_of word =
    if is_a_text word then TextToken (without_last (drop 1 word))
    else (if is_a_name word then NameToken word
    else (if is_a_number word then NumberToken word (value_of_number word) else OddToken word))

-- a lower-case hexadecimal digit
abbrev pub is_hex : ℕ → Bool
is_hex b = is_a_digit b || (nat_le 97 b && nat_le b 102)

-- what a hexadecimal digit counts
abbrev pub hex_value : ℕ → ℕ
hex_value b = if is_a_digit b then b - 48 else b - 87

-- the bytes that hexadecimal digits spell, two digits a byte; nothing where a digit is none, or one is left over
abbrev pub hex_bytes : List ℕ → Option (List ℕ)
hex_bytes [] = Some []
hex_bytes (a ∷ []) = None
hex_bytes (a ∷ b ∷ rest) =
    if is_hex a && is_hex b then option_map (λ bytes. ((hex_value a * 16) + hex_value b) ∷ bytes) (hex_bytes rest) else None

-- the bytes that a word spells in hexadecimal digits, if it has so many
abbrev pub spelled_bytes : ℕ → List ℕ → Option (List ℕ)
spelled_bytes count word = if length word == 2 * count then hex_bytes word else None

-- the same of what a word is; a text spells none
abbrev pub bytes_in : ℕ → Token → Option (List ℕ)
bytes_in count (NameToken word) = spelled_bytes count word
bytes_in count (NumberToken word z) = spelled_bytes count word
bytes_in count (TextToken text) = None
bytes_in count (OddToken word) = spelled_bytes count word
