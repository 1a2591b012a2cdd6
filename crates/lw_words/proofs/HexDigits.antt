-- What hexadecimal digits spell.
use Rattle.std.proofs.Common.{◌≡◌, ℕ, zero, suc, ◌+◌, ◌*◌, ◌/◌, ◌<◌, ◌≤◌, map, ◌==◌, Bool, true, false, ◌&&◌, cond, List, [], ◌∷◌, length, get_or, Option, Some, None, option_map, refl, sym, ap, ◌∙◌, arith}
use Rattle.std.specs.List.{list_all}
use Rattle.lw_grammar.specs.Tokens.{Token, NameToken, NumberToken, TextToken, OddToken, is_hex, hex_value, hex_bytes, spelled_bytes, bytes_in}
use Rattle.lw_grammar.specs.Statements.{GlyphLine, glyph_of_bytes, glyph_line}
use Rattle.lw_words.specs.declared.token.Token.{Token as Reading}
use Rattle.lw_words.specs.TokenMeaning.{token_meaning}
use Rattle.lw_words.specs.Digits.{decoded, spelling}
use Rattle.std.proofs.lemmas.Bool.{eqb-true, eq-eqb, ne_eqb}

-- two digits more
hex_step : (a b : ℕ) (p q r : Bool) (o : Option (List ℕ)) (bytes : List ℕ) → o ≡ cond r (Some bytes) None → cond (p && q) (option_map (λ bytes. ((hex_value a * 16) + hex_value b) ∷ bytes) o) None ≡ cond (p && (q && r)) (Some (((hex_value a * 16) + hex_value b) ∷ bytes)) None
hex_step a b true true true o bytes e = rw e refl
hex_step a b true true false o bytes e = rw e refl
hex_step a b true false r o bytes e = refl
hex_step a b false q r o bytes e = refl

-- what an even number of bytes spells, if all are digits
hex_even : (word : List ℕ) (count : ℕ) → length word ≡ 2 * count → hex_bytes word ≡ cond (list_all is_hex word) (Some (decoded word)) None
hex_even [] count e = refl
hex_even (a ∷ []) count e = absurd (omega arith)
hex_even (a ∷ b ∷ rest) zero e = absurd (omega arith)
hex_even (a ∷ b ∷ rest) (suc count) e =
    hex_step a b (is_hex a) (is_hex b) (list_all is_hex rest) (hex_bytes rest) (decoded rest) (hex_even rest count (omega arith))

-- the word of a token that is no text, and no word of a text
pub bytes_of_word : (token : Token) (word : List ℕ) (count : ℕ) → spelling token ≡ Some word → bytes_in count token ≡ spelled_bytes count word
bytes_of_word (NameToken w) word count e = let f : w ≡ word = cc in ap (spelled_bytes count) f
bytes_of_word (NumberToken w z) word count e = let f : w ≡ word = cc in ap (spelled_bytes count) f
bytes_of_word (TextToken t) word count e = absurd (cc)
bytes_of_word (OddToken w) word count e = let f : w ≡ word = cc in ap (spelled_bytes count) f

-- a word that spells so many bytes, and one that doesn't
pub spells : (word : List ℕ) (count : ℕ) → length word ≡ 2 * count → list_all is_hex word ≡ true → spelled_bytes count word ≡ Some (decoded word)
spells word count long hex = rw (eq-eqb (length word) (2 * count) long, hex_even word count long, hex) refl

pub spells_not : (word : List ℕ) (count : ℕ) → list_all is_hex word ≡ false → spelled_bytes count word ≡ None
spells_not word count hex = go (length word == 2 * count) refl
  where
    go : (t : Bool) → (length word == 2 * count) ≡ t → cond t (hex_bytes word) None ≡ None
    go false e = refl
    go true e = let long : length word ≡ 2 * count = eqb-true _ _ e in rw (hex_even word count long, hex) refl

pub too_long : (word : List ℕ) (count : ℕ) → (length word ≡ 2 * count → ⊥) → spelled_bytes count word ≡ None
too_long word count long = rw (ne_eqb (length word) (2 * count) long) refl

-- the byte at a place among those that digits spell
pub decoded_by : (ds : List ℕ) (i : ℕ) → 2 * i + 1 < length ds → (hex_value (get_or ds (2 * i) 0) * 16) + hex_value (get_or ds (2 * i + 1) 0) ≡ get_or (decoded ds) i 0
decoded_by [] i lt = absurd (omega arith)
decoded_by (a ∷ []) i lt = absurd (omega arith)
decoded_by (a ∷ b ∷ rest) zero lt = refl
decoded_by (a ∷ b ∷ rest) (suc i) lt =
    let e : 2 * suc i ≡ suc (suc (2 * i)) = omega arith in
    let f : 2 * suc i + 1 ≡ suc (suc (2 * i + 1)) = omega arith in
    rw (f, e) (decoded_by rest i (omega arith))

-- how many bytes digits spell
pub length_decoded : (ds : List ℕ) (count : ℕ) → length ds ≡ 2 * count → length (decoded ds) ≡ count
length_decoded [] count e = omega arith
length_decoded (a ∷ []) count e = absurd (omega arith)
length_decoded (a ∷ b ∷ rest) zero e = absurd (omega arith)
length_decoded (a ∷ b ∷ rest) (suc count) e = let h = length_decoded rest count (omega arith) in omega (arith, h)

-- half as many bytes as digits
pub half : (ds : List ℕ) → length (decoded ds) ≡ length ds / 2
half [] = refl
half (a ∷ []) = refl
half (a ∷ b ∷ rest) = let h = half rest in omega (arith, h)

-- the digits of a byte stand among all
pub pair_within : (ds : List ℕ) (i : ℕ) → i < length (decoded ds) → 2 * i + 1 < length ds
pair_within ds i lt = let h = half ds in omega (arith, h)

-- a byte alone
only_one : (bs : List ℕ) → length bs ≡ 1 → bs ≡ get_or bs 0 0 ∷ []
only_one [] e = absurd (omega arith)
only_one (b ∷ []) e = refl
only_one (b ∷ c ∷ bs) e = absurd (omega arith)

-- the glyph of digits of its code and of its rows
pub glyph_made : (code rows : List ℕ) (x y : Option (List ℕ)) (b : ℕ) → Some code ≡ x → Some rows ≡ y → length code ≡ 1 → b ≡ get_or code 0 0 → Some (GlyphLine b rows) ≡ glyph_of_bytes x y
glyph_made code rows x y b e f long g =
    let h : Some (b ∷ []) ≡ x = ap (λ c. Some (c ∷ [])) g ∙ ap Some (sym (only_one code long)) ∙ e in
    rw (← h, ← f) refl

-- after a glyph's code stands one word
pub one_word : (code : Token) (ts : List Reading) → 2 ≤ length ts → None ≡ glyph_line (code ∷ map token_meaning ts)
one_word code [] h = absurd (omega arith)
one_word code (a ∷ []) h = absurd (omega arith)
one_word code (a ∷ b ∷ ts) h = refl
