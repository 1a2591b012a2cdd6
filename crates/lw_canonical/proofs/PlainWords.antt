-- Words without spaces and quotes, with single spaces between them, are the words of their line.
use Rattle.std.proofs.Common.{◌≡◌, ℕ, ◌*◌, ◌≤◌, ◌==◌, Bool, true, false, not, ◌&&◌, nat_le, cond, List, [], ◌∷◌, ◌++◌, length, drop, Ok, Err, refl, ap, subst, ◌∙◌, arith, append-nil, length-append}
use Rattle.std.specs.List.{list_all, onto_first}
use Rattle.lw_grammar.specs.declared.reason.Reason.TheVariants.{LineTooLong, BadByte, Spacing, Quote}
use Rattle.lw_grammar.specs.Demands.{◌>>=◌, demand}
use Rattle.lw_grammar.specs.Tokens.{ends_text, on_found, tokens_at, NameToken, NumberToken, TextToken, OddToken, is_a_letter, is_in_name, is_a_text, is_a_name, is_a_number, value_of_number, without_last, token_of}
use Rattle.lw_grammar.specs.Script.{line_limit, is_printable, words_read}
use Rattle.lw_canonical.specs.Spelling.{joined}
use Rattle.std.proofs.lemmas.Bool.{false≢true, leb-true, le-leb, ne_eqb, and_parts, and_from, not-true}
use Rattle.std.proofs.lemmas.Bool.Decides.{nat_tests}
use Rattle.std.proofs.lemmas.List.Folds.{list_all-append}

-- a byte of a line that is neither a space nor a quote
abbrev pub is_plain_byte : ℕ → Bool
is_plain_byte b = (nat_le 33 b && nat_le b 126) && not (b == 34)

-- a word of 1 to 16 such bytes
abbrev pub is_plain : List ℕ → Bool
is_plain [] = false
is_plain (b ∷ bs) = (is_plain_byte b && list_all is_plain_byte bs) && nat_le (length bs) 15

-- what the grammar asks of such a byte
plain_byte : (b : ℕ) → is_plain_byte b ≡ true → ((b == 32) ≡ false) × ((b == 34) ≡ false) × (is_printable b ≡ true)
plain_byte b h =
    let k = and_parts (nat_le 33 b && nat_le b 126) (not (b == 34)) h in
    let m = and_parts (nat_le 33 b) (nat_le b 126) k.0 in
    let low = leb-true 33 b m.0 in
    (ne_eqb b 32 (λ e. omega (arith, e, low)), not-true (b == 34) k.1, and_from (nat_le 32 b) (nat_le b 126) (le-leb 32 b (omega (arith, low))) m.1)

-- a plain word before what is left of a line
word_then : (w rest v : List ℕ) (vs : List (List ℕ)) → list_all is_plain_byte w ≡ true → tokens_at false rest ≡ Ok (v ∷ vs) → tokens_at false (w ++ rest) ≡ Ok ((w ++ v) ∷ vs)
word_then [] rest v vs p e = e
word_then (b ∷ w) rest v vs p e =
    let k = and_parts (is_plain_byte b) (list_all is_plain_byte w) p in
    let q = plain_byte b k.0 in
    let more = word_then w rest v vs k.1 e in
    λ i. cond (q.0 i) (on_found (λ ws. [] ∷ ws) (tokens_at true (w ++ rest))) (cond (q.1 i) (Err Quote) (on_found (onto_first b) (more i)))

first_then : (b : ℕ) (w rest v : List ℕ) (vs : List (List ℕ)) → is_plain_byte b ≡ true → list_all is_plain_byte w ≡ true → tokens_at false rest ≡ Ok (v ∷ vs) → tokens_at true (b ∷ (w ++ rest)) ≡ Ok ((b ∷ (w ++ v)) ∷ vs)
first_then b w rest v vs p ps e =
    let q = plain_byte b p in
    let more = word_then w rest v vs ps e in
    λ i. cond (q.0 i) (Err Spacing) (cond (q.1 i) (cond (ends_text (w ++ rest)) (Ok ((b ∷ (w ++ rest)) ∷ [])) (Err Quote)) (on_found (onto_first b) (more i)))

-- Plain words with single spaces between them are the words of their line.
split : (w : List ℕ) (ws : List (List ℕ)) → list_all is_plain (w ∷ ws) ≡ true → tokens_at true (joined (w ∷ ws)) ≡ Ok (w ∷ ws)
split [] ws p = absurd (false≢true p)
split (b ∷ w) [] p =
    let k = and_parts (is_plain (b ∷ w)) true p in
    let m = and_parts (is_plain_byte b && list_all is_plain_byte w) (nat_le (length w) 15) k.0 in
    let n = and_parts (is_plain_byte b) (list_all is_plain_byte w) m.0 in
    subst (λ u. tokens_at true (b ∷ u) ≡ Ok ((b ∷ u) ∷ [])) (append-nil w) (first_then b w [] [] [] n.0 n.1 refl)
split (b ∷ w) (v ∷ ws) p =
    let k = and_parts (is_plain (b ∷ w)) (list_all is_plain (v ∷ ws)) p in
    let m = and_parts (is_plain_byte b && list_all is_plain_byte w) (nat_le (length w) 15) k.0 in
    let n = and_parts (is_plain_byte b) (list_all is_plain_byte w) m.0 in
    let after = ap (on_found (λ us. [] ∷ us)) (split v ws k.1) in
    first_then b w (32 ∷ joined (v ∷ ws)) [] (v ∷ ws) n.0 n.1 after ∙ ap (λ u. Ok ((b ∷ u) ∷ v ∷ ws)) (append-nil w)

-- its bytes are those of a line, and each word has at most 16
clean_bytes : (w : List ℕ) → list_all is_plain_byte w ≡ true → list_all is_printable w ≡ true
clean_bytes [] h = refl
clean_bytes (b ∷ w) h =
    let k = and_parts (is_plain_byte b) (list_all is_plain_byte w) h in
    and_from (is_printable b) (list_all is_printable w) (plain_byte b k.0).2 (clean_bytes w k.1)

plain_word : (w : List ℕ) → is_plain w ≡ true → (list_all is_printable w ≡ true) × (length w ≤ 16)
plain_word [] h = absurd (false≢true h)
plain_word (b ∷ w) h =
    let k = and_parts (is_plain_byte b && list_all is_plain_byte w) (nat_le (length w) 15) h in
    let short = leb-true (length w) 15 k.1 in
    (clean_bytes (b ∷ w) k.0, omega (arith, short))

plain_line : (ws : List (List ℕ)) → list_all is_plain ws ≡ true → (list_all is_printable (joined ws) ≡ true) × (length (joined ws) ≤ 17 * length ws)
plain_line [] h = (refl, omega arith)
plain_line (w ∷ []) h = let k = plain_word w (and_parts (is_plain w) true h).0 in (k.0, omega (arith, k.1))
plain_line (w ∷ v ∷ ws) h =
    let k = and_parts (is_plain w) (list_all is_plain (v ∷ ws)) h in
    let a = plain_word w k.0 in
    let b = plain_line (v ∷ ws) k.1 in
    let long = length-append w (32 ∷ joined (v ∷ ws)) in
    (list_all-append is_printable w (32 ∷ joined (v ∷ ws)) ∙ and_from (list_all is_printable w) (list_all is_printable (joined (v ∷ ws))) a.0 b.0, omega (arith, a.1, b.1, long))

-- So a line of a few of them reads as them.
pub words_read_back : (w : List ℕ) (ws : List (List ℕ)) → list_all is_plain (w ∷ ws) ≡ true → length ws ≤ 8 → words_read (joined (w ∷ ws)) ≡ Ok (w ∷ ws)
words_read_back w ws h few =
    let k = plain_line (w ∷ ws) h in
    let long : nat_le (length (joined (w ∷ ws))) line_limit ≡ true = le-leb (length (joined (w ∷ ws))) line_limit (omega (arith, k.1, few)) in
    let words = split w ws h in
    λ i. demand (long i) LineTooLong >>= (λ _. demand (k.0 i) BadByte >>= (λ _. words i))

-- a name is a name, and is a plain word
pub name_token : (w : List ℕ) → is_a_text w ≡ false → is_a_name w ≡ true → token_of w ≡ NameToken w
name_token w a b =
    λ i. cond (a i) (TextToken (without_last (drop 1 w))) (cond (b i) (NameToken w) (cond (is_a_number w) (NumberToken w (value_of_number w)) (OddToken w)))

letter_plain : (b : ℕ) → is_a_letter b ≡ true → is_plain_byte b ≡ true
letter_plain b h = grind (arith, nat_tests)

name_byte_plain : (b : ℕ) → is_in_name b ≡ true → is_plain_byte b ≡ true
name_byte_plain b h = grind (arith, nat_tests)

name_bytes_plain : (bs : List ℕ) → list_all is_in_name bs ≡ true → list_all is_plain_byte bs ≡ true
name_bytes_plain [] h = refl
name_bytes_plain (b ∷ bs) h =
    let k = and_parts (is_in_name b) (list_all is_in_name bs) h in
    and_from (is_plain_byte b) (list_all is_plain_byte bs) (name_byte_plain b k.0) (name_bytes_plain bs k.1)

name_is_plain : (w : List ℕ) → is_a_name w ≡ true → is_plain w ≡ true
name_is_plain [] h = absurd (false≢true h)
name_is_plain (b ∷ bs) h =
    let k = and_parts (is_a_letter b && list_all is_in_name bs) (nat_le (length bs) 15) h in
    let m = and_parts (is_a_letter b) (list_all is_in_name bs) k.0 in
    and_from _ _ (and_from (is_plain_byte b) (list_all is_plain_byte bs) (letter_plain b m.0) (name_bytes_plain bs m.1)) k.1

-- a word that reads as a name is one
token_is_name : (w : List ℕ) → token_of w ≡ NameToken w → is_a_name w ≡ true
token_is_name w h = go (is_a_text w) (is_a_name w) refl (is_a_number w) h
  where
    go : (t n : Bool) → is_a_name w ≡ n → (m : Bool) → cond t (TextToken (without_last (drop 1 w))) (cond n (NameToken w) (cond m (NumberToken w (value_of_number w)) (OddToken w))) ≡ NameToken w → is_a_name w ≡ true
    go true n d m e = absurd (cc)
    go false true d m e = d
    go false false d true e = absurd (cc)
    go false false d false e = absurd (cc)

pub name_plain : (w : List ℕ) → token_of w ≡ NameToken w → is_plain w ≡ true
name_plain w h = name_is_plain w (token_is_name w h)
