-- An order that bytes spell has no more numbers than there are bytes.
use Rattle.std.proofs.Common.{◌≡◌, ℕ, suc, ◌+◌, ◌≤◌, ◌==◌, Bool, true, false, cond, List, [], ◌∷◌, length, map, ℤ, unsigned_abs, Option, Some, None, option_map, IfSome, nat_le, Result, Ok, Err, ok_or, IfOk, refl, ap, subst, ◌∙◌, arith, length-append}
use Rattle.std.proofs.lemmas.List.{length-map}
use Rattle.std.specs.List.{onto_first, list_all}
use Rattle.lw_region.specs.Rectangle.{Rectangle}
use Rattle.lw_area.specs.Areas.{area_rectangles}
use Rattle.lw_grammar.specs.declared.reason.Reason.{Reason}
use Rattle.lw_grammar.specs.declared.reason.Reason.TheVariants.{LineTooLong, BadByte, Spacing, Quote, Form as FormReason}
use Rattle.lw_grammar.specs.Demands.{◌>>=◌, demand}
use Rattle.lw_grammar.specs.Lines.{lines}
use Rattle.lw_grammar.specs.Tokens.{space, quote, ends_text, on_found, tokens_at, tokens, Token, NameToken, NumberToken, TextToken, OddToken, token_of}
use Rattle.lw_grammar.specs.Statements.{FillAct, Statement, NumbersLine, CallLine, LockLine, UnlockLine, Line, StatementLine, AreaLine, all_numbers, numbers_limit, GzzAct, OpenGzz, BoxGzz, FrontGzz, BehindGzz, InFrontGzz, CloseGzz, GzzLine}
use Rattle.lw_grammar.specs.Told.{OpenGroup, Told, area_words, fill_lines, area_lines, stands_for, told_with, told, told_all, NamedPair, gzz_lines}
use Rattle.lw_grammar.specs.Script.{Setting, is_skipped, are_numbers_due, is_nothing_due, is_printable, line_limit, words_read, stated, line_made, line_tested, line_of_words, line_read, added, statements_with, ScriptInput, SpellsInput}
use Rattle.lw_grammar.specs.Reading.{Reached, at_the_top, with_line, at_number, end_read, lines_read}
use Rattle.lw_grammar.specs.GoodLines.{IsStatementHere}
use Rattle.lw_grammar.proofs.AreaLines.{told_added, told_parts}
use Rattle.lw_grammar.proofs.ScriptOutcome.{IsRead, line_good, end_same, of_lines}

-- A line has no more words than bytes.
onto_few : (b n : ℕ) (r : Result (List (List ℕ)) Reason) → IfOk r (λ ws. length ws ≤ n + 1) → IfOk (on_found (onto_first b) r) (λ ws. length ws ≤ n + 1)
onto_few b n (Ok []) h = omega arith
onto_few b n (Ok (w ∷ ws)) h = h
onto_few b n (Err r) h = tt

after_few : (n : ℕ) (r : Result (List (List ℕ)) Reason) → IfOk r (λ ws. length ws ≤ n) → IfOk (on_found (λ ws. [] ∷ ws) r) (λ ws. length ws ≤ suc n + 1)
after_few n (Ok ws) h = omega (arith, h)
after_few n (Err r) h = tt

more_few : (n : ℕ) (r : Result (List (List ℕ)) Reason) → IfOk r (λ ws. length ws ≤ n + 1) → IfOk r (λ ws. length ws ≤ suc n)
more_few n (Ok ws) h = omega (arith, h)
more_few n (Err r) h = tt

still_few : (n : ℕ) (r : Result (List (List ℕ)) Reason) → IfOk r (λ ws. length ws ≤ n + 1) → IfOk r (λ ws. length ws ≤ suc n + 1)
still_few n (Ok ws) h = omega (arith, h)
still_few n (Err r) h = tt

begun_few : (b : ℕ) (bs : List ℕ) (s q e : Bool) → IfOk (tokens_at false bs) (λ ws. length ws ≤ length bs + 1) → IfOk (cond s (Err Spacing) (cond q (cond e (Ok ((b ∷ bs) ∷ [])) (Err Quote)) (on_found (onto_first b) (tokens_at false bs)))) (λ ws. length ws ≤ suc (length bs))
begun_few b bs true q e h = tt
begun_few b bs false true true h = omega arith
begun_few b bs false true false h = tt
begun_few b bs false false e h = more_few (length bs) (on_found (onto_first b) (tokens_at false bs)) (onto_few b (length bs) (tokens_at false bs) h)

within_few : (b : ℕ) (bs : List ℕ) (s q : Bool) → IfOk (tokens_at true bs) (λ ws. length ws ≤ length bs) → IfOk (tokens_at false bs) (λ ws. length ws ≤ length bs + 1) → IfOk (cond s (on_found (λ ws. [] ∷ ws) (tokens_at true bs)) (cond q (Err Quote) (on_found (onto_first b) (tokens_at false bs)))) (λ ws. length ws ≤ suc (length bs) + 1)
within_few b bs true q g h = after_few (length bs) (tokens_at true bs) g
within_few b bs false true g h = tt
within_few b bs false false g h = still_few (length bs) (on_found (onto_first b) (tokens_at false bs)) (onto_few b (length bs) (tokens_at false bs) h)

record FewWords (bs : List ℕ) : Type 0 where
  pub begun : IfOk (tokens_at true bs) (λ ws. length ws ≤ length bs)
  pub within : IfOk (tokens_at false bs) (λ ws. length ws ≤ length bs + 1)

few_words : (bs : List ℕ) → FewWords bs
few_words [] = record { begun = tt; within = omega arith }
few_words (b ∷ bs) =
    let h = few_words bs in
    record {
      begun = begun_few b bs (b == space) (b == quote) (ends_text bs) h.within;
      within = within_few b bs (b == space) (b == quote) h.begun h.within;
    }

words_few : (bytes : List ℕ) (ws : List (List ℕ)) → words_read bytes ≡ Ok ws → length ws ≤ length bytes
words_few bytes ws e = go (nat_le (length bytes) line_limit) (list_all is_printable bytes) e
  where
    go : (a b : Bool) → (demand a LineTooLong >>= (λ _. demand b BadByte >>= (λ _. tokens bytes))) ≡ Ok ws → length ws ≤ length bytes
    go true true d = subst (λ r. IfOk r (λ xs. length xs ≤ length bytes)) d (few_words bytes).begun
    go true false d = absurd (cc)
    go false b d = absurd (cc)

-- and no more numbers than words
numbers_few : (ts : List Token) → IfSome (all_numbers ts) (λ zs. length zs ≡ length ts)
numbers_few [] = refl
numbers_few (NumberToken a z ∷ ts) = go (all_numbers ts) (numbers_few ts)
  where
    go : (o : Option (List ℤ)) → IfSome o (λ zs. length zs ≡ length ts) → IfSome (option_map (λ zs. z ∷ zs) o) (λ zs. length zs ≡ suc (length ts))
    go (Some zs) h = ap suc h
    go None h = tt
numbers_few (NameToken n ∷ ts) = tt
numbers_few (TextToken t ∷ ts) = tt
numbers_few (OddToken n ∷ ts) = tt

-- the numbers that a statement has
abbrev count_of : Line → ℕ
count_of (StatementLine (NumbersLine zs)) = length zs
count_of line = 0

stated_few : (n : ℕ) (o : Option (List ℤ)) → IfSome o (λ zs. length zs ≡ n) → IfOk (ok_or (stated (option_map (λ zs. NumbersLine zs) o)) FormReason) (λ l. count_of l ≤ n)
stated_few n (Some zs) h = omega (arith, h)
stated_few n None h = tt

line_few : (b : Bool) (ws : List (List ℕ)) → IfOk (ok_or (stated (cond b (option_map (λ zs. NumbersLine zs) (all_numbers (map token_of ws))) None)) FormReason) (λ l. count_of l ≤ length ws)
line_few true ws =
    let same = length-map ws token_of in
    subst (λ n. IfOk (ok_or (stated (option_map (λ zs. NumbersLine zs) (all_numbers (map token_of ws)))) FormReason) (λ l. count_of l ≤ n)) same (stated_few (length (map token_of ws)) (all_numbers (map token_of ws)) (numbers_few (map token_of ws)))
line_few false ws = tt

-- what a line says where numbers are due
said_few : (s : Setting) (above : List Statement) (ws : List (List ℕ)) (l : Line) → ((told above).rows_due == 0) ≡ true → are_numbers_due (told above).section ≡ true → line_of_words s (told above) ws ≡ Ok l → count_of l ≤ length ws
said_few s above ws l due numbers e = go (line_made s.form (told above).version (told above).section (told above).rows_due (told above).row_width ws) made e
  where
    made : IfOk (line_made s.form (told above).version (told above).section (told above).rows_due (told above).row_width ws) (λ m. count_of m ≤ length ws)
    made = rw (due, numbers) (line_few (nat_le (length (map token_of ws)) numbers_limit) ws)

    at_tests : (m : Line) (t : Result (Unit {0}) Reason) → count_of m ≤ length ws → (t >>= (λ _. Ok m)) ≡ Ok l → count_of l ≤ length ws
    at_tests m (Ok u) h d = let both : Ok m ≡ Ok l = d in let same : m ≡ l = cc in subst (λ (k : Line). count_of k ≤ length ws) same h
    at_tests m (Err r) h d = absurd (cc)

    go : (r : Result Line Reason) → IfOk r (λ m. count_of m ≤ length ws) → (r >>= (λ m. line_tested s (told above) m >>= (λ _. Ok m))) ≡ Ok l → count_of l ≤ length ws
    go (Ok m) h d = at_tests m (line_tested s (told above) m) h d
    go (Err r) h d = absurd (cc)

read_few : (s : Setting) (above : List Statement) (line : List ℕ) (l : Line) → ((told above).rows_due == 0) ≡ true → are_numbers_due (told above).section ≡ true → line_read s (told above) line ≡ Ok l → count_of l ≤ length line
read_few s above line l due numbers e = go (words_read line) refl e
  where
    go : (r : Result (List (List ℕ)) Reason) → words_read line ≡ r → (r >>= line_of_words s (told above)) ≡ Ok l → count_of l ≤ length line
    go (Ok ws) f d =
        let few = words_few line ws f in
        let said = said_few s above ws l due numbers d in
        omega (arith, few, said)
    go (Err r) f d = absurd (cc)

-- how many numbers of an order lines tell
abbrev many : List Statement → ℕ
many above = length (told above).order

-- an area tells none
fills_many : (layer : List ℕ) (rs : List Rectangle) (t : Told) → (told_all (fill_lines layer rs) t).order ≡ t.order
fills_many layer [] t = refl
fills_many layer (r ∷ rs) t = fills_many layer rs (told_with (CallLine (layer ∷ []) (FillAct r)) t)

area_many : (o : Option OpenGroup) (layer : List ℕ) (rs : List Rectangle) (t : Told) → (told_all (area_lines o layer rs) t).order ≡ t.order
area_many None layer [] t = refl
area_many (Some x) layer [] t = refl
area_many None layer (r ∷ rs) t =
    let locked = told_with (LockLine layer) t in
    ap (λ (u : Told). u.order) (told_parts (fill_lines layer (r ∷ rs)) (UnlockLine layer ∷ []) locked) ∙ fills_many layer (r ∷ rs) locked
area_many (Some x) layer (r ∷ rs) t = fills_many layer (r ∷ rs) t

-- what is done with a window of two layers tells none
gzz_many : (pairs : List NamedPair) (g : List ℕ) (act : GzzAct) (t : Told) → (told_all (gzz_lines pairs g act) t).order ≡ t.order
gzz_many pairs g (OpenGzz inner kind place r classes title) t = refl
gzz_many pairs g (BoxGzz r) t = refl
gzz_many pairs g FrontGzz t = refl
gzz_many pairs g BehindGzz t = refl
gzz_many pairs g (InFrontGzz m) t = refl
gzz_many pairs g CloseGzz t = refl

-- a statement tells its numbers
statement_many : (s : Setting) (above : List Statement) (line : List ℕ) (f : Statement) → IsStatementHere s above f → line_read s (told above) line ≡ Ok (StatementLine f) → many (f ∷ above) ≤ many above + length line
statement_many s above line (NumbersLine zs) h e =
    let few : length zs ≤ length line = read_few s above line (StatementLine (NumbersLine zs)) h.0 h.1 e in
    let whole = length-append (told above).order (map unsigned_abs zs) in
    let same = length-map zs unsigned_abs in
    omega (arith, few, whole, same)
statement_many s above line f h e = omega arith

-- so does a line
line_many : (s : Setting) (above : List Statement) (line : List ℕ) → IfOk (statements_with s above line) (λ fs. many fs ≤ many above + length line)
line_many s above line = go (is_skipped line)
  where
    said : (l : Line) → IsRead s above l → line_read s (told above) line ≡ Ok l → many (added (stands_for (told above) l) above) ≤ many above + length line
    said (StatementLine f) h e = statement_many s above line f h.0 e
    said (AreaLine layer pattern points) h e =
        let fs = area_lines (told above).group layer (area_rectangles points (area_words (told above) pattern)) in
        let same : many (added fs above) ≡ many above = ap (λ (t : Told). length t.order) (told_added fs above) ∙ ap length (area_many (told above).group layer (area_rectangles points (area_words (told above) pattern)) (told above)) in
        omega (arith, same)
    said (GzzLine g act) h e =
        let fs = gzz_lines (told above).pairs g act in
        let same : many (added fs above) ≡ many above =
        ap (λ (t : Told). length t.order) (told_added fs above) ∙ ap length (gzz_many (told above).pairs g act (told above)) in
        omega (arith, same)

    at_read : (r : Result Line Reason) → line_read s (told above) line ≡ r → IfOk (r >>= (λ l. Ok (added (stands_for (told above) l) above))) (λ fs. many fs ≤ many above + length line)
    at_read (Ok l) e = said l (line_good s above line l e) e
    at_read (Err r) e = tt

    go : (b : Bool) → IfOk (cond b (Ok above) (line_read s (told above) line >>= (λ l. Ok (added (stands_for (told above) l) above)))) (λ fs. many fs ≤ many above + length line)
    go true = omega arith
    go false = at_read (line_read s (told above) line) refl

-- how many bytes lines have, without line feeds
abbrev all_bytes : List (List ℕ) → ℕ
all_bytes [] = 0
all_bytes (line ∷ ls) = length line + all_bytes ls

lines_many : (s : Setting) (p q : Reached) (ls : List (List ℕ)) → lines_read s p ls ≡ Ok q → many q.statements ≤ many p.statements + all_bytes ls
lines_many s p q [] e = subst (λ (r : Reached). many r.statements ≤ many p.statements + 0) (end_same s p q e).0 (omega arith)
lines_many s p q (line ∷ ls) e =
    go (is_nothing_due (told p.statements).section) (λ statements d. lines_many s (with_line p line statements) q ls d) e
  where
    Next : Type 0
    Next = (statements : List Statement) → lines_read s (with_line p line statements) ls ≡ Ok q → many q.statements ≤ many statements + all_bytes ls

    at_statements : (r : Result (List Statement) Reason) → IfOk r (λ fs. many fs ≤ many p.statements + length line) → Next → (at_number p.number r >>= (λ statements. lines_read s (with_line p line statements) ls)) ≡ Ok q → many q.statements ≤ many p.statements + (length line + all_bytes ls)
    at_statements (Ok statements) h next d = let rest = next statements d in omega (arith, h, rest)
    at_statements (Err r) h next d = absurd (cc)

    go : (b : Bool) → Next → cond b (end_read s p) (at_number p.number (statements_with s p.statements line) >>= (λ statements. lines_read s (with_line p line statements) ls)) ≡ Ok q → many q.statements ≤ many p.statements + (length line + all_bytes ls)
    go true next d = subst (λ (r : Reached). many r.statements ≤ many p.statements + (length line + all_bytes ls)) (end_same s p q d).0 (omega arith)
    go false next d = at_statements (statements_with s p.statements line) (line_many s p.statements line) next d

-- lines have no more bytes than there are
onto_bytes : (b : ℕ) (ls : List (List ℕ)) → all_bytes (onto_first b ls) ≤ suc (all_bytes ls)
onto_bytes b [] = omega arith
onto_bytes b (l ∷ ls) = omega arith

cut_bytes : (t : Bool) (b : ℕ) (ls : List (List ℕ)) → all_bytes (cond t ([] ∷ ls) (onto_first b ls)) ≤ suc (all_bytes ls)
cut_bytes true b ls = omega arith
cut_bytes false b ls = onto_bytes b ls

lines_bytes : (bytes : List ℕ) → all_bytes (lines bytes) ≤ length bytes
lines_bytes [] = omega arith
lines_bytes (b ∷ bs) =
    let rest = lines_bytes bs in
    let more = cut_bytes (b == 10) b (lines bs) in
    omega (arith, rest, more)

pub order_few : (s : Setting) (bytes : List ℕ) (input : ScriptInput) → SpellsInput s bytes input → length input.order ≤ length bytes
order_few s bytes input spelled =
    let l = of_lines s bytes input spelled in
    let order : length input.order ≡ many l.reached.statements = ap (λ i. length i.order) l.is in
    let all = lines_many s at_the_top l.reached (lines bytes) l.lines_are in
    let few = lines_bytes bytes in
    omega (arith, order, all, few)
