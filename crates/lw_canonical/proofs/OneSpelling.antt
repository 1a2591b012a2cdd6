-- Each good line has one spelling, in which it isn't skipped and has no line feed; and lines so spelled are those of their text.
use Rattle.std.proofs.Common.{◌≡◌, ℕ, ◌≤◌, ◌==◌, Bool, true, false, not, cond, nat_le, List, [], ◌∷◌, ◌++◌, length, map, codes, Option, Some, None, Result, Ok, Err, ok_or, IfSome, refl, sym, ap, subst, ◌∙◌, append_assoc}
use Rattle.std.specs.List.{list_all, flat_map, onto_first}
use Rattle.std.specs.Result.{IfOk}
use Rattle.lw_grammar.specs.declared.reason.Reason.{Reason}
use Rattle.lw_grammar.specs.declared.reason.Reason.TheVariants.{LineTooLong, BadByte, UnknownWord, Misplaced, Form as FormReason, Range}
use Rattle.lw_grammar.specs.declared.verb.Verb.{Verb}
use Rattle.lw_grammar.specs.declared.verb.Verb.TheVariants.{Part, Bare, Number, Pair, Text, Rect, Region, ClearRegion, Create, Open, InFront, Box as BoxOf, Which, Fill, ScrollRaster, Put, Blit, EndRefresh, Area as AreaVerb, AreaPattern as AreaPatternVerb, Gzz}
use Rattle.lw_grammar.specs.Demands.{◌>>=◌, demand}
use Rattle.lw_grammar.specs.Lines.{lines}
use Rattle.lw_grammar.specs.Tokens.{tokens, Token, NameToken, token_of}
use Rattle.lw_grammar.specs.declared.verb.GzzVerb.{GzzVerb}
use Rattle.lw_grammar.specs.Verbs.{gzz_word, verb_word, verb_of}
use Rattle.lw_grammar.specs.Statements.{BoxAct, FillAct, Statement, GzzAct, Line, StatementLine, AreaLine, GzzLine, row_line, numbers_line, area_points, area_line, area_pattern_line, gzz_line, statement_by, line_by, is_line_in_range, box, rectangle}
use Rattle.lw_grammar.specs.Told.{told}
use Rattle.lw_grammar.specs.Script.{Setting, line_limit, is_printable, are_numbers_due, is_known_in, belongs_in, words_read, verb_read, stated, line_made, line_tested, line_read}
use Rattle.lw_calls.specs.Written.{line_of}
use Rattle.lw_canonical.specs.Spelling.{joined, words_of, spelled, gzz_words, written}
use Rattle.lw_grammar.proofs.GzzLines.{gzz_passed}
use Rattle.lw_grammar.proofs.ScriptStatements.{map_has, map_all, found_has}
use Rattle.lw_canonical.proofs.SpelledVerbs.{IsWordOf, verb_spelled}
use Rattle.lw_canonical.proofs.SpelledWords.{AreWords, AreWordsOf, words_joined, token_word, tokens_back, tokens_good}
use Rattle.lw_canonical.proofs.SpelledRanges.{rect_small, also, box_small}
use Rattle.lw_canonical.proofs.SpelledStatements.{IsSpelt, HasWords, row_spelt, numbers_spelt, part_spelt, layer_spelt, number_spelt, pair_spelt, text_spelt, four_spelt, rect_spelt, region_spelt, clear_spelt, which_spelt, infront_spelt, scrollraster_spelt, endrefresh_spelt, put_spelt, blit_spelt}
use Rattle.lw_canonical.proofs.SpelledLayers.{create_spelt, open_spelt}
use Rattle.lw_canonical.proofs.SpelledGzz.{HasSmallBox, small_box, IsGzzSpelt, is_gzz, gzz_only, gzz_spelt}
use Rattle.std.proofs.lemmas.Result.{IfOk-at_ok}
use Rattle.std.proofs.lemmas.Bool.{false≢true, eqb-true, and_parts, and_from}

-- the statement of each verb
statement_spelt : (verb : Verb) (ts : List Token) → IfSome (statement_by verb ts) (IsSpelt (verb_word verb) ts)
statement_spelt (Part verb) ts = part_spelt verb ts
statement_spelt (Bare verb) ts = layer_spelt verb ts
statement_spelt (Number verb) ts = number_spelt verb ts
statement_spelt (Pair verb) ts = pair_spelt verb ts
statement_spelt (Text verb) ts = text_spelt verb ts
statement_spelt (Rect op) ts = rect_spelt op ts
statement_spelt (Region op) ts = region_spelt op ts
statement_spelt ClearRegion ts = clear_spelt ts
statement_spelt Create ts = create_spelt ts
statement_spelt Open ts = open_spelt ts
statement_spelt InFront ts = infront_spelt ts
statement_spelt BoxOf ts = four_spelt (codes "box") (λ x y w h. BoxAct (box x y w h)) (λ l x y w h. refl) box_small ts
statement_spelt Which ts = which_spelt ts
statement_spelt Fill ts = four_spelt (codes "fill") (λ x0 y0 x1 y1. FillAct (rectangle x0 y0 x1 y1)) (λ l x0 y0 x1 y1. refl) rect_small ts
statement_spelt ScrollRaster ts = scrollraster_spelt ts
statement_spelt Put ts = put_spelt ts
statement_spelt Blit ts = blit_spelt ts
statement_spelt EndRefresh ts = endrefresh_spelt ts
statement_spelt AreaVerb ts = tt
statement_spelt AreaPatternVerb ts = tt
statement_spelt (Gzz verb) ts = tt

-- The statement's words are these, where it is in range and the words are good ones.
abbrev IsOfWords : List (List ℕ) → Statement → Type 0
IsOfWords ws f = AreWords ws → (version : ℕ) → is_line_in_range version f ≡ true → words_of f ≡ ws

-- The same of a line; an area isn't asked.
abbrev SaysWords : List (List ℕ) → Line → Type 0
SaysWords ws (StatementLine f) = IsOfWords ws f
SaysWords ws (AreaLine layer pattern points) = Unit {0}
SaysWords ws (GzzLine g act) = AreWords ws → HasSmallBox act → gzz_words g act ≡ ws

-- an area
area_words : (ws : List (List ℕ)) (ts : List Token) → IfSome (area_line ts) (SaysWords ws)
area_words ws (NameToken l ∷ ts) = map_all (SaysWords ws) (λ ps. AreaLine l None ps) (area_points ts) (λ ps. tt)
area_words ws _ = tt

area_pattern_words : (ws : List (List ℕ)) (ts : List Token) → IfSome (area_pattern_line ts) (SaysWords ws)
area_pattern_words ws (NameToken l ∷ NameToken n ∷ ts) = map_all (SaysWords ws) (λ ps. AreaLine l (Some n) ps) (area_points ts) (λ ps. tt)
area_pattern_words ws _ = tt

-- what is done with a window of two layers
gzz_says : (w : List ℕ) (verb : GzzVerb) (ws : List (List ℕ)) → w ≡ gzz_word verb → (o : Option Line) → IfSome o (IsGzzSpelt (gzz_word verb) (map token_of ws)) → IfSome o (λ l. is_gzz l ≡ true) → IfSome o (SaysWords (w ∷ ws))
gzz_says w verb ws e None h k = tt
gzz_says w verb ws e (Some (StatementLine f)) h k = absurd (false≢true k)
gzz_says w verb ws e (Some (AreaLine layer pattern points)) h k = tt
gzz_says w verb ws e (Some (GzzLine g act)) h k = λ good small. h (tokens_good ws) small ∙ also (sym e) (tokens_back ws good.1)

-- a statement without a verb, by what its words are
by_tokens : (ws : List (List ℕ)) (f : Statement) → HasWords (map token_word (map token_of ws)) (map token_of ws) f → IsOfWords ws f
by_tokens ws f h good v r = h (tokens_good ws) v r ∙ tokens_back ws good

-- the same of a statement that is found, or not
found_words : (ws : List (List ℕ)) (o : Option Statement) → IfSome o (HasWords (map token_word (map token_of ws)) (map token_of ws)) → IfOk (ok_or (stated o) FormReason) (SaysWords ws)
found_words ws None h = tt
found_words ws (Some f) h = by_tokens ws f h

-- a line with a verb
by_verb : (w : List ℕ) (v : Verb) (ws : List (List ℕ)) → IsWordOf w v → IfSome (line_by v (map token_of ws)) (SaysWords (w ∷ ws))
by_verb w AreaVerb ws e = area_words (w ∷ ws) (map token_of ws)
by_verb w AreaPatternVerb ws e = area_pattern_words (w ∷ ws) (map token_of ws)
by_verb w (Gzz verb) ws e = gzz_says w verb ws e (gzz_line verb (map token_of ws)) (gzz_spelt verb (map token_of ws)) (gzz_only verb (map token_of ws))
by_verb w v ws e =
    map_has (IsSpelt (verb_word v) (map token_of ws)) (SaysWords (w ∷ ws)) (λ f. StatementLine f) (statement_by v (map token_of ws)) (statement_spelt v (map token_of ws)) (λ f h good version r. h (tokens_good ws) version r ∙ also (sym e) (tokens_back ws good.1))

-- a line that begins with a verb
verb_words : (s : Setting) (above : List Statement) (ws : List (List ℕ)) → IfOk (verb_read s.form (told above).version (told above).section ws) (SaysWords ws)
verb_words s above [] = tt
verb_words s above (w ∷ ws) = at_verb (verb_of w) (verb_spelled w)
  where
    at_tests : (v : Verb) → IsWordOf w v → (a b : Bool) → IfOk (demand a UnknownWord >>= (λ _. demand b Misplaced >>= (λ _. ok_or (line_by v (map token_of ws)) FormReason))) (SaysWords (w ∷ ws))
    at_tests v e false b = tt
    at_tests v e true false = tt
    at_tests v e true true = found_has (SaysWords (w ∷ ws)) _ FormReason (by_verb w v ws e)

    at_verb : (o : Option Verb) → IfSome o (IsWordOf w) → IfOk (ok_or o UnknownWord >>= (λ v. demand (is_known_in (told above).version v) UnknownWord >>= (λ _. demand (belongs_in s.form (told above).version (told above).section v) Misplaced >>= (λ _. ok_or (line_by v (map token_of ws)) FormReason)))) (SaysWords (w ∷ ws))
    at_verb None e = tt
    at_verb (Some v) e = at_tests v e (is_known_in (told above).version v) (belongs_in s.form (told above).version (told above).section v)

-- of two results, each has what it is to have
either_ok : {A : Type 0} (P : A → Type 0) (b : Bool) (x y : Result A Reason) → IfOk x P → IfOk y P → IfOk (cond b x y) P
either_ok P true x y h k = h
either_ok P false x y h k = k

-- the statement that is read has the line's words
statement_words : (s : Setting) (above : List Statement) (ws : List (List ℕ)) → IfOk (line_made s.form (told above).version (told above).section (told above).rows_due (told above).row_width ws) (SaysWords ws)
statement_words s above ws =
    either_ok (SaysWords ws) (not ((told above).rows_due == 0)) _ _ (found_words ws (row_line (told above).row_width (map token_of ws)) (row_spelt (told above).row_width (map token_of ws))) (either_ok (SaysWords ws) (are_numbers_due (told above).section) _ _ (found_words ws (numbers_line (map token_of ws)) (numbers_spelt (map token_of ws))) (verb_words s above ws))

-- what was handed on, and what it gave
handed_on : {A B : Type 0} (r : Result A Reason) (f : A → Result B Reason) (b : B) → (r >>= f) ≡ Ok b → (a : A) × (r ≡ Ok a) × (f a ≡ Ok b)
handed_on (Ok a) f b e = (a, refl, e)
handed_on (Err q) f b e = absurd (cc)

-- a test that was passed holds
demanded : {B : Type 0} (t : Bool) (q : Reason) (f : Unit {0} → Result B Reason) (b : B) → (demand t q >>= f) ≡ Ok b → (t ≡ true) × (f tt ≡ Ok b)
demanded true q f b e = (refl, e)
demanded false q f b e = absurd (cc)

-- What a line that was read went through.
pub record IsReading (s : Setting) (above : List Statement) (line : List ℕ) (f : Statement) : Type 0 where
  pub printable : list_all is_printable line ≡ true
  pub ws : List (List ℕ)
  pub split : tokens line ≡ Ok ws
  pub statement : line_made s.form (told above).version (told above).section (told above).rows_due (told above).row_width ws ≡ Ok (StatementLine f)
  pub range : is_line_in_range (told above).version f ≡ true

-- the statement that was tested is the one that was told
told_statement : (s : Setting) (above : List Statement) (l : Line) (f : Statement) (h : (line_tested s (told above) l >>= (λ _. Ok l)) ≡ Ok (StatementLine f)) → (l ≡ StatementLine f) × (is_line_in_range (told above).version f ≡ true)
told_statement s above l f h =
    let t = handed_on (line_tested s (told above) l) (λ _. Ok l) (StatementLine f) h in
    let same : l ≡ StatementLine f = cc in
    let passed : line_tested s (told above) (StatementLine f) ≡ Ok t.0 = subst (λ (k : Line). line_tested s (told above) k ≡ Ok t.0) same t.1 in
    let tested = demanded (is_line_in_range (told above).version f) Range _ _ passed in
    (same, tested.0)

pub reading : (s : Setting) (above : List Statement) (line : List ℕ) (f : Statement) → line_read s (told above) line ≡ Ok (StatementLine f) → IsReading s above line f
reading s above line f e =
    let words = handed_on (words_read line) _ (StatementLine f) e in
    let short = demanded (nat_le (length line) line_limit) LineTooLong _ _ words.1 in
    let clean = demanded (list_all is_printable line) BadByte _ _ short.1 in
    let statement = handed_on (line_made s.form (told above).version (told above).section (told above).rows_due (told above).row_width words.0) _ (StatementLine f) words.2 in
    let told = told_statement s above statement.0 f statement.2 in
    record { printable = clean.0; ws = words.0; split = clean.1; statement = statement.1 ∙ ap (λ (l : Line). Ok l) told.0; range = told.1 }

-- words that are those of a line give it back
joined_line : (line : List ℕ) (ws : List (List ℕ)) → AreWordsOf line ws → (joined ws ≡ line) × AreWords ws
joined_line line [] h = absurd h
joined_line line (w ∷ ws) h = h

-- Each good statement's line has one spelling.
pub one_spelling : (s : Setting) (above : List Statement) (line : List ℕ) (f : Statement) → line_read s (told above) line ≡ Ok (StatementLine f) → spelled f ≡ line
one_spelling s above line f e =
    let r = reading s above line f e in
    let words = joined_line line r.ws (IfOk-at_ok (AreWordsOf line) r.split (words_joined line)) in
    ap joined (IfOk-at_ok (SaysWords r.ws) r.statement (statement_words s above r.ws) words.1 (told above).version r.range) ∙ words.0

-- What any line that was read went through.
pub record IsLineReading (s : Setting) (above : List Statement) (line : List ℕ) (m : Line) : Type 0 where
  pub printable : list_all is_printable line ≡ true
  pub ws : List (List ℕ)
  pub split : tokens line ≡ Ok ws
  pub made : line_made s.form (told above).version (told above).section (told above).rows_due (told above).row_width ws ≡ Ok m
  pub tested : line_tested s (told above) m ≡ Ok tt

told_line : (s : Setting) (above : List Statement) (l m : Line) → (line_tested s (told above) l >>= (λ _. Ok l)) ≡ Ok m → (l ≡ m) × (line_tested s (told above) m ≡ Ok tt)
told_line s above l m h =
    let t = handed_on (line_tested s (told above) l) (λ _. Ok l) m h in
    let same : l ≡ m = cc in
    (same, subst (λ (k : Line). line_tested s (told above) k ≡ Ok tt) same t.1)

pub line_reading : (s : Setting) (above : List Statement) (line : List ℕ) (m : Line) → line_read s (told above) line ≡ Ok m → IsLineReading s above line m
line_reading s above line m e =
    let words = handed_on (words_read line) _ m e in
    let short = demanded (nat_le (length line) line_limit) LineTooLong _ _ words.1 in
    let clean = demanded (list_all is_printable line) BadByte _ _ short.1 in
    let made = handed_on (line_made s.form (told above).version (told above).section (told above).rows_due (told above).row_width words.0) _ m words.2 in
    let told = told_line s above made.0 m made.2 in
    record { printable = clean.0; ws = words.0; split = clean.1; made = made.1 ∙ ap (λ (l : Line). Ok l) told.0; tested = told.1 }

-- What is done with a window of two layers has one spelling too.
pub gzz_spelling : (s : Setting) (above : List Statement) (line g : List ℕ) (act : GzzAct) → (told above).width ≤ 32767 → (told above).height ≤ 32767 → line_read s (told above) line ≡ Ok (GzzLine g act) → written (GzzLine g act) ≡ line
gzz_spelling s above line g act wide high e =
    let r = line_reading s above line (GzzLine g act) e in
    let words = joined_line line r.ws (IfOk-at_ok (AreWordsOf line) r.split (words_joined line)) in
    let range = (gzz_passed (told above) g act r.tested).range in
    let small = small_box (told above).width (told above).height act wide high range in
    ap joined (IfOk-at_ok (SaysWords r.ws) r.made (statement_words s above r.ws) words.1 small) ∙ words.0

-- no byte is a line feed
abbrev pub HasNoFeed : List ℕ → Type 0
HasNoFeed line = list_all (λ b. not (b == 10)) line ≡ true

-- a printable byte is none
printable_byte : (b : ℕ) → is_printable b ≡ true → not (b == 10) ≡ true
printable_byte b h = go (b == 10) refl
  where
    go : (t : Bool) → (b == 10) ≡ t → not t ≡ true
    go false e = refl
    go true e = absurd (false≢true (ap is_printable (sym (eqb-true b 10 e)) ∙ h))

printable_line : (line : List ℕ) → list_all is_printable line ≡ true → HasNoFeed line
printable_line [] h = refl
printable_line (b ∷ bs) h =
    let k = and_parts (is_printable b) (list_all is_printable bs) h in
    and_from (not (b == 10)) _ (printable_byte b k.0) (printable_line bs k.1)

-- A good line has no line feed.
pub no_feed : (s : Setting) (above : List Statement) (line : List ℕ) (l : Line) → line_read s (told above) line ≡ Ok l → list_all (λ b. not (b == 10)) line ≡ true
no_feed s above line l e = let r = line_reading s above line l e in printable_line line r.printable

-- a line with its feed is the first of a text that begins with it
first_line : (line rest : List ℕ) → HasNoFeed line → lines (line ++ 10 ∷ rest) ≡ line ∷ lines rest
first_line [] rest h = refl
first_line (b ∷ bs) rest h =
    let k = and_parts (not (b == 10)) _ h in
    go (b == 10) k.0 (first_line bs rest k.1)
  where
    go : (t : Bool) → not t ≡ true → lines (bs ++ 10 ∷ rest) ≡ bs ∷ lines rest → cond t ([] ∷ lines (bs ++ 10 ∷ rest)) (onto_first b (lines (bs ++ 10 ∷ rest))) ≡ (b ∷ bs) ∷ lines rest
    go true n ih = absurd (false≢true n)
    go false n ih = ap (onto_first b) ih

-- none of these lines is written with a line feed
abbrev pub HaveNoFeed : List Line → Type 0
HaveNoFeed [] = Unit {0}
HaveNoFeed (l ∷ ls) = HasNoFeed (written l) × HaveNoFeed ls

-- The lines of a text of written lines are what is written.
pub lines_of_text : (ls : List Line) → HaveNoFeed ls → lines (flat_map (λ l. line_of (written l)) ls) ≡ map written ls
lines_of_text [] h = refl
lines_of_text (l ∷ ls) h =
    ap lines (append_assoc (written l) (10 ∷ []) (flat_map (λ m. line_of (written m)) ls))
    ∙ (first_line (written l) (flat_map (λ m. line_of (written m)) ls) h.0 ∙ ap (λ ws. written l ∷ ws) (lines_of_text ls h.1))
