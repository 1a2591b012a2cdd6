-- A good line reads again in its one spelling below other lines that tell the same of what its reading looks at.
use Rattle.std.proofs.Common.{◌≡◌, ℕ, ◌+◌, ◌/◌, ◌≤◌, ◌==◌, Bool, true, false, not, cond, nat_lt, List, [], ◌∷◌, length, map, codes, bytes_eq, Option, Some, None, option_map, IfSome, Result, Ok, Err, ok_or, refl, sym, ap, subst, ◌∙◌, arith}
use Rattle.lw_grammar.specs.declared.form.Form.{Form}
use Rattle.lw_grammar.specs.declared.reason.Reason.{Reason}
use Rattle.lw_grammar.specs.declared.reason.Reason.TheVariants.{UnknownWord, Misplaced, Form as FormReason}
use Rattle.lw_grammar.specs.declared.verb.GzzVerb.{GzzVerb}
use Rattle.lw_grammar.specs.declared.verb.Verb.{Verb}
use Rattle.lw_grammar.specs.declared.verb.Verb.TheVariants.{Part, Number, Area as AreaVerb, AreaPattern as AreaPatternVerb, Gzz}
use Rattle.lw_grammar.specs.declared.verb.PartVerb.TheVariants.{Layers as LayersVerb, Pattern as PatternVerb, Order as OrderVerb, Report as ReportVerb}
use Rattle.lw_grammar.specs.declared.verb.NumberVerb.TheVariants.{Hook as HookVerb}
use Rattle.lw_calls.specs.declared.limits.Limits.{Limits}
use Rattle.lw_grammar.specs.Demands.{◌>>=◌, demand}
use Rattle.lw_grammar.specs.Tokens.{Token, NameToken, NumberToken, token_of}
use Rattle.lw_area.specs.Patterns.{is_pattern_count}
use Rattle.lw_grammar.specs.Statements.{NumberAct, Statement, LayersLine, RowLine, PatternLine, OrderLine, ReportLine, CallLine, Line, StatementLine, AreaLine, GzzLine, row_line, numbers_line, alone_line, layers_line, pattern_words, pattern_line, number_line, area_points, area_line, area_pattern_line, line_by, gzz_line}
use Rattle.lw_grammar.specs.Told.{Section, Told, told}
use Rattle.lw_grammar.specs.Script.{Setting, is_skipped, are_numbers_due, is_nothing_due, is_known_in, belongs_in, verb_on, after_verb, are_few, words_read, verb_read, stated, line_made, line_tested, line_read}
use Rattle.lw_calls.specs.Written.{hex_digit}
use Rattle.lw_canonical.specs.Spelling.{spelled}
use Rattle.lw_grammar.proofs.ScriptStatements.{either_has, map_has, map_all}
use Rattle.lw_grammar.proofs.ScriptSizes.{counted_few}
use Rattle.lw_canonical.proofs.SpelledGzz.{is_gzz, gzz_only}
use Rattle.lw_canonical.proofs.Rearranged.{IsWritten, is_passed}
use Rattle.std.proofs.lemmas.Bool.{false≢true, or_from, ne_eqb}

-- what a line says, where no rows are due or some are
abbrev line_at : Bool → ℕ → Form → ℕ → Section → List (List ℕ) → Result Line Reason
line_at bare width form version c ws =
    cond (not bare) (ok_or (stated (row_line width (map token_of ws))) FormReason) (cond (are_numbers_due c) (ok_or (stated (numbers_line (map token_of ws))) FormReason) (verb_read form version c ws))

-- the line stands in each input, or in none: it begins neither an order nor a report
abbrev pub is_in_each : Statement → Bool
is_in_each OrderLine = false
is_in_each ReportLine = false
is_in_each f = true

-- the line is one of each version: it neither tells the version nor replaces a hook, and is no pattern
abbrev pub is_of_each : Statement → Bool
is_of_each LayersLine = false
is_of_each (PatternLine name words) = false
is_of_each (CallLine layers (NumberAct HookVerb z)) = false
is_of_each f = true

-- the test of a line's statement; an area has none
abbrev says : (Statement → Bool) → Line → Bool
says P (StatementLine f) = P f
says P (AreaLine layer pattern points) = false
says P (GzzLine g act) = false

-- a line with such a statement is none of a verb that has no such lines
other_verb : (P : Statement → Bool) (known stands : Bool) (o : Option Line) (f : Statement) → IfSome o (λ l. says P l ≡ false) → P f ≡ true → (demand known UnknownWord >>= (λ _. demand stands Misplaced >>= (λ _. ok_or o FormReason))) ≡ Ok (StatementLine f) → ⊥
other_verb P false stands o f h e d = absurd (cc)
other_verb P true false o f h e d = absurd (cc)
other_verb P true true None f h e d = absurd (cc)
other_verb P true true (Some l) f h e d = let same : l ≡ StatementLine f = cc in absurd (false≢true (sym h ∙ (ap (says P) same ∙ e)))

other_statement : (P : Statement → Bool) (known stands : Bool) (o : Option Statement) (f : Statement) → IfSome o (λ g. P g ≡ false) → P f ≡ true → (demand known UnknownWord >>= (λ _. demand stands Misplaced >>= (λ _. ok_or (option_map (λ g. StatementLine g) o) FormReason))) ≡ Ok (StatementLine f) → ⊥
other_statement P known stands o f h e d =
    other_verb P known stands (option_map (λ g. StatementLine g) o) f (map_has (λ g. P g ≡ false) (λ l. says P l ≡ false) (λ g. StatementLine g) o h (λ g k. k)) e d

alone_only : (g : Statement) → is_in_each g ≡ false → (ts : List Token) → IfSome (alone_line g ts) (λ k. is_in_each k ≡ false)
alone_only g h [] = h
alone_only g h (t ∷ ts) = tt

layers_only : (ts : List Token) → IfSome (layers_line ts) (λ k. is_of_each k ≡ false)
layers_only (NumberToken a z ∷ []) = either_has (λ k. is_of_each k ≡ false) (bytes_eq a (codes "2")) (Some LayersLine) None refl tt
layers_only _ = tt

hook_only : (ts : List Token) → IfSome (number_line HookVerb ts) (λ k. is_of_each k ≡ false)
hook_only (NameToken l ∷ NumberToken a z ∷ []) = refl
hook_only _ = tt

pattern_only : (ts : List Token) → IfSome (pattern_line ts) (λ k. is_of_each k ≡ false)
pattern_only (NameToken n ∷ ts) =
    either_has (λ k. is_of_each k ≡ false) (is_pattern_count (length ts)) _ None (map_all (λ k. is_of_each k ≡ false) (λ ws. PatternLine n ws) (pattern_words ts) (λ ws. refl)) tt
pattern_only _ = tt

area_only : (ts : List Token) → IfSome (area_line ts) (λ l. says is_of_each l ≡ false)
area_only (NameToken l ∷ ts) = map_all (λ k. says is_of_each k ≡ false) (λ ps. AreaLine l None ps) (area_points ts) (λ ps. refl)
area_only _ = tt

area_pattern_only : (ts : List Token) → IfSome (area_pattern_line ts) (λ l. says is_of_each l ≡ false)
area_pattern_only (NameToken l ∷ NameToken n ∷ ts) = map_all (λ k. says is_of_each k ≡ false) (λ ps. AreaLine l (Some n) ps) (area_points ts) (λ ps. refl)
area_pattern_only _ = tt

-- nor has a line that is done with a window of two layers such a statement
not_of_each : (o : Option Line) → IfSome o (λ l. is_gzz l ≡ true) → IfSome o (λ l. says is_of_each l ≡ false)
not_of_each None h = tt
not_of_each (Some (StatementLine f)) h = absurd (false≢true h)
not_of_each (Some (AreaLine layer pattern points)) h = refl
not_of_each (Some (GzzLine g act)) h = refl

gzz_not_of_each : (verb : GzzVerb) (ts : List Token) → IfSome (gzz_line verb ts) (λ l. says is_of_each l ≡ false)
gzz_not_of_each verb ts = not_of_each (gzz_line verb ts) (gzz_only verb ts)

-- What is read of a verb with these words, in this input, version and section.
abbrev read_of : Form → ℕ → Section → List Token → Option Verb → Result Line Reason
read_of form version c ts o =
    ok_or o UnknownWord >>= (λ v. demand (is_known_in version v) UnknownWord >>= (λ _. demand (belongs_in form version c v) Misplaced >>= (λ _. ok_or (line_by v ts) FormReason)))

-- So the same statement is read of its words in each input of the same version.
pub form_kept : (a b : Form) (version : ℕ) (c : Section) (f : Statement) → is_in_each f ≡ true → (ws : List (List ℕ)) → verb_read a version c ws ≡ Ok (StatementLine f) → verb_read b version c ws ≡ Ok (StatementLine f)
form_kept a b version c f f_in ws e = at_verb (map token_of (after_verb ws)) (verb_on ws) e
  where
    at_verb : (ts : List Token) (o : Option Verb) → read_of a version c ts o ≡ Ok (StatementLine f) → read_of b version c ts o ≡ Ok (StatementLine f)
    at_verb ts None d = absurd (cc)
    at_verb ts (Some (Part OrderVerb)) d = absurd (other_statement is_in_each true (belongs_in a version c (Part OrderVerb)) (alone_line OrderLine ts) f (alone_only OrderLine refl ts) f_in d)
    at_verb ts (Some (Part ReportVerb)) d = absurd (other_statement is_in_each true (belongs_in a version c (Part ReportVerb)) (alone_line ReportLine ts) f (alone_only ReportLine refl ts) f_in d)
    at_verb ts (Some v) d = d

-- So is one of each version in each.
pub version_kept : (form : Form) (m n : ℕ) (c : Section) (f : Statement) → is_of_each f ≡ true → (ws : List (List ℕ)) → verb_read form m c ws ≡ Ok (StatementLine f) → verb_read form n c ws ≡ Ok (StatementLine f)
version_kept form m n c f f_of ws e = at_verb (map token_of (after_verb ws)) (verb_on ws) e
  where
    at_verb : (ts : List Token) (o : Option Verb) → read_of form m c ts o ≡ Ok (StatementLine f) → read_of form n c ts o ≡ Ok (StatementLine f)
    at_verb ts None d = absurd (cc)
    at_verb ts (Some (Part LayersVerb)) d = absurd (other_statement is_of_each (is_known_in m (Part LayersVerb)) (belongs_in form m c (Part LayersVerb)) (layers_line ts) f (layers_only ts) f_of d)
    at_verb ts (Some (Number HookVerb)) d = absurd (other_statement is_of_each (is_known_in m (Number HookVerb)) (belongs_in form m c (Number HookVerb)) (number_line HookVerb ts) f (hook_only ts) f_of d)
    at_verb ts (Some (Part PatternVerb)) d = absurd (other_statement is_of_each (is_known_in m (Part PatternVerb)) (belongs_in form m c (Part PatternVerb)) (pattern_line ts) f (pattern_only ts) f_of d)
    at_verb ts (Some AreaVerb) d = absurd (other_verb is_of_each (is_known_in m AreaVerb) (belongs_in form m c AreaVerb) (area_line ts) f (area_only ts) f_of d)
    at_verb ts (Some (Gzz verb)) d = absurd (other_verb is_of_each (is_known_in m (Gzz verb)) (belongs_in form m c (Gzz verb)) (gzz_line verb ts) f (gzz_not_of_each verb ts) f_of d)
    at_verb ts (Some AreaPatternVerb) d = absurd (other_verb is_of_each (is_known_in m AreaPatternVerb) (belongs_in form m c AreaPatternVerb) (area_pattern_line ts) f (area_pattern_only ts) f_of d)
    at_verb ts (Some v) d = d

-- Where no rows are due below either, and the section is the same, a line's statement is read of words again if a verb's is.
pub verb_statements : (s t : Setting) (above below : List Statement) (c : Section) (f : Statement) → ((told above).rows_due == 0) ≡ true → ((told below).rows_due == 0) ≡ true → (told above).section ≡ c → (told below).section ≡ c → (ws : List (List ℕ)) → (verb_read s.form (told above).version c ws ≡ Ok (StatementLine f) → verb_read t.form (told below).version c ws ≡ Ok (StatementLine f)) → line_made s.form (told above).version (told above).section (told above).rows_due (told above).row_width ws ≡ Ok (StatementLine f) → line_made t.form (told below).version (told below).section (told below).rows_due (told below).row_width ws ≡ Ok (StatementLine f)
verb_statements s t above below c f no_rows none_below here there ws kept e =
    from t below none_below there ∙ go (are_numbers_due c) (sym (from s above no_rows here) ∙ e)
  where
    from : (u : Setting) (lines : List Statement) → ((told lines).rows_due == 0) ≡ true → (told lines).section ≡ c → line_made u.form (told lines).version (told lines).section (told lines).rows_due (told lines).row_width ws ≡ line_at true (told lines).row_width u.form (told lines).version c ws
    from u lines d k =
        let first : line_made u.form (told lines).version (told lines).section (told lines).rows_due (told lines).row_width ws ≡ line_at true (told lines).row_width u.form (told lines).version (told lines).section ws = ap (λ b. line_at b (told lines).row_width u.form (told lines).version (told lines).section ws) d in
        first ∙ ap (λ k. line_at true (told lines).row_width u.form (told lines).version k ws) k

    go : (b : Bool) → cond b (ok_or (stated (numbers_line (map token_of ws))) FormReason) (verb_read s.form (told above).version c ws) ≡ Ok (StatementLine f) → cond b (ok_or (stated (numbers_line (map token_of ws))) FormReason) (verb_read t.form (told below).version c ws) ≡ Ok (StatementLine f)
    go true d = d
    go false d = kept d

-- The same of a line of each version that stands in each input.
pub plain_statements : (s t : Setting) (above below : List Statement) (c : Section) (f : Statement) → ((told above).rows_due == 0) ≡ true → ((told below).rows_due == 0) ≡ true → (told above).section ≡ c → (told below).section ≡ c → is_in_each f ≡ true → is_of_each f ≡ true → (ws : List (List ℕ)) → line_made s.form (told above).version (told above).section (told above).rows_due (told above).row_width ws ≡ Ok (StatementLine f) → line_made t.form (told below).version (told below).section (told below).rows_due (told below).row_width ws ≡ Ok (StatementLine f)
plain_statements s t above below c f no_rows none_below here there f_in f_of ws e =
    verb_statements s t above below c f no_rows none_below here there ws (λ d. version_kept t.form (told above).version (told below).version c f f_of ws (form_kept s.form t.form (told above).version c f f_in ws d)) e

-- Where rows of the same width are due below both, the same statement is read.
pub row_statements : (s t : Setting) (above below : List Statement) → ((told above).rows_due == 0) ≡ false → ((told below).rows_due == 0) ≡ false → (told above).row_width ≡ (told below).row_width → (f : Statement) (ws : List (List ℕ)) → line_made s.form (told above).version (told above).section (told above).rows_due (told above).row_width ws ≡ Ok (StatementLine f) → line_made t.form (told below).version (told below).section (told below).rows_due (told below).row_width ws ≡ Ok (StatementLine f)
row_statements s t above below some_rows some_below width f ws e =
    from t below some_below ∙ (ap (λ k. ok_or (stated (row_line k (map token_of ws))) FormReason) (sym width) ∙ (sym (from s above some_rows) ∙ e))
  where
    from : (u : Setting) (lines : List Statement) → ((told lines).rows_due == 0) ≡ false → line_made u.form (told lines).version (told lines).section (told lines).rows_due (told lines).row_width ws ≡ ok_or (stated (row_line (told lines).row_width (map token_of ws))) FormReason
    from u lines d = ap (λ b. line_at b (told lines).row_width u.form (told lines).version (told lines).section ws) d

-- a line that says the same again is good again, where what it says passes its tests
pub read_again : (s t : Setting) (above below : List Statement) (line : List ℕ) (m : Line) → ((ws : List (List ℕ)) → line_made s.form (told above).version (told above).section (told above).rows_due (told above).row_width ws ≡ Ok m → line_made t.form (told below).version (told below).section (told below).rows_due (told below).row_width ws ≡ Ok m) → line_tested t (told below) m ≡ Ok tt → line_read s (told above) line ≡ Ok m → line_read t (told below) line ≡ Ok m
read_again s t above below line m same tested read = at_words (words_read line) read
  where
    at_test : (l : Line) (r : Result (Unit {0}) Reason) → (r >>= (λ _. Ok l)) ≡ Ok m → (let o : Result Line Reason = Ok l in o ≡ Ok m)
    at_test l (Ok u) e = e
    at_test l (Err r) e = absurd (cc)

    at_line : (r : Result Line Reason) → (r >>= (λ l. line_tested s (told above) l >>= (λ _. Ok l))) ≡ Ok m → r ≡ Ok m
    at_line (Err r) e = absurd (cc)
    at_line (Ok l) e = at_test l (line_tested s (told above) l) e

    put : (r : Result Line Reason) → Ok m ≡ r → (r >>= (λ l. line_tested t (told below) l >>= (λ _. Ok l))) ≡ Ok m
    put r e =
        let P : Result Line Reason → Type 0 = λ o. (o >>= (λ l. line_tested t (told below) l >>= (λ _. Ok l))) ≡ Ok m in
        let Q : Result (Unit {0}) Reason → Type 0 = λ o. (o >>= (λ _. Ok m)) ≡ Ok m in
        let last : Q (line_tested t (told below) m) = subst Q (sym tested) refl in
        subst P e last

    at_words : (w : Result (List (List ℕ)) Reason) → (w >>= (λ ws. line_made s.form (told above).version (told above).section (told above).rows_due (told above).row_width ws >>= (λ l. line_tested s (told above) l >>= (λ _. Ok l)))) ≡ Ok m → (w >>= (λ ws. line_made t.form (told below).version (told below).section (told below).rows_due (told below).row_width ws >>= (λ l. line_tested t (told below) l >>= (λ _. Ok l)))) ≡ Ok m
    at_words (Err r) e = absurd (cc)
    at_words (Ok ws) e = put (line_made t.form (told below).version (told below).section (told below).rows_due (told below).row_width ws) (sym (same ws (at_line (line_made s.form (told above).version (told above).section (told above).rows_due (told above).row_width ws) e)))

-- A statement that is written where it stood is written again.
pub spelled_again : (s t : Setting) (above below : List Statement) (f : Statement) → IsWritten s above f → ((ws : List (List ℕ)) → line_made s.form (told above).version (told above).section (told above).rows_due (told above).row_width ws ≡ Ok (StatementLine f) → line_made t.form (told below).version (told below).section (told below).rows_due (told below).row_width ws ≡ Ok (StatementLine f)) → line_tested t (told below) (StatementLine f) ≡ Ok tt → IsWritten t below f
spelled_again s t above below f w same tested = read_again s t above below (spelled f) (StatementLine f) same tested w

-- Counts of which all but one are none are few.
pub few_by_bitmaps : (limits : Limits) (t : Told) → t.tasks ≡ [] → length t.bitmap_names ≤ 16 → t.pattern_names ≡ [] → t.names ≡ [] → t.supers ≡ 0 → t.calls_in_task ≡ 0 → are_few limits t ≡ true
few_by_bitmaps limits t no_tasks few no_patterns no_names no_supers no_calls =
    let tasks : length t.tasks ≡ 0 = ap length no_tasks in
    let patterns : length t.pattern_names ≡ 0 = ap length no_patterns in
    let names : length t.names ≡ 0 = ap length no_names in
    counted_few limits t (record {
      tasks = omega (arith, tasks);
      bitmaps = few;
      patterns = omega (arith, patterns);
      names = omega (arith, names);
      supers = omega (arith, no_supers);
      calls = omega (arith, no_calls);
    })

-- A line that isn't skipped isn't passed, unless nothing is due.
pub isnt_passed : (below : List Statement) (line : List ℕ) → is_skipped line ≡ false → is_nothing_due (told below).section ≡ false → is_passed below line ≡ false
isnt_passed below line e d = or_from (is_skipped line) _ e d

-- a digit of a row doesn't begin a skipped line
digit_stands : (n : ℕ) → (hex_digit n == 35) ≡ false
digit_stands n = step (nat_lt n 10)
  where
    step : (t : Bool) → (cond t (48 + n) (87 + n) == 35) ≡ false
    step true = ne_eqb (48 + n) 35 (λ e. omega arith)
    step false = ne_eqb (87 + n) 35 (λ e. omega arith)

-- Nor does any good row: it has a digit.
pub row_stands : (t : Setting) (below : List Statement) (bytes : List ℕ) → IsWritten t below (RowLine bytes) → is_skipped (spelled (RowLine bytes)) ≡ false
row_stands t below [] e = absurd (cc)
row_stands t below (b ∷ bs) e = digit_stands (b / 16)
