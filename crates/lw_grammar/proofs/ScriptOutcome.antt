-- What the outcome of bytes tells: the lines of an input were good, and an input is spelled or a first line is bad.
use Rattle.std.proofs.Common.{◌≡◌, ℕ, suc, ◌+◌, ◌==◌, Bool, true, false, not, cond, min, List, [], ◌∷◌, ◌++◌, length, Result, Ok, Err, MatchResult, refl, sym, subst, ◌∙◌, ap, inl, inr, ◌⊎◌, arith}
use Rattle.std.specs.Result.{IfOk}
use Rattle.lw_grammar.specs.declared.form.Form.{Form}
use Rattle.lw_grammar.specs.declared.form.Form.TheVariants.{Plain, Ordered, Audited}
use Rattle.lw_grammar.specs.declared.reason.Reason.{Reason}
use Rattle.lw_grammar.specs.declared.reason.Reason.TheVariants.{Gzz as GzzReason, Missing}
use Rattle.lw_grammar.specs.Demands.{◌>>=◌, demand}
use Rattle.lw_grammar.specs.Lines.{lines}
use Rattle.lw_grammar.specs.Statements.{Statement, is_line_in_range, ScreenLine, BitmapLine, RowLine, TaskLine, EndLine, OrderLine, ReportLine, Line, StatementLine, AreaLine, GzzLine}
use Rattle.lw_grammar.specs.Told.{Told, stands_for, told}
use Rattle.lw_grammar.specs.Script.{Setting, is_skipped, are_assets_due, are_tasks_due, is_nothing_due, is_audited, lacks_name, gives_again, words_read, parts_pair, line_made, tested_with, statement_tested, line_tested, line_read, added, statements_with, may_end, ScriptInput, input_from, bytes_in_lines, SpellsInput, AreGoodBelow, AreOutsideBelow, IsBadBelow, IsFirstBadIn}
use Rattle.lw_grammar.specs.Reading.{Reached, at_the_top, with_line, at_number, end_read, lines_read, outcome_of}
use Rattle.lw_grammar.specs.Laws.{IsDecidedIn}
use Rattle.lw_grammar.specs.GoodLines.{AreGoodLines}
use Rattle.lw_grammar.proofs.ScriptStatements.{IsLineHere, line_here}
use Rattle.lw_grammar.proofs.ScriptSizes.{passed}
use Rattle.lw_grammar.proofs.AreaLines.{area_good}
use Rattle.lw_grammar.proofs.GzzLines.{gzz_good}
use Rattle.std.proofs.lemmas.Bool.{true≢false, and_parts}

-- What a line that was read is good for: it may stand here, and its tests hold.
abbrev pub IsRead : Setting → List Statement → Line → Type 0
IsRead s above l = IsLineHere s above l × (line_tested s (told above) l ≡ Ok tt)

-- what is told has passed its tests
read_tests : (s : Setting) (above : List Statement) (l m : Line) → IsLineHere s above l → (t : Result (Unit {0}) Reason) → line_tested s (told above) l ≡ t → (t >>= (λ _. Ok l)) ≡ Ok m → IsRead s above m
read_tests s above l m h (Ok u) e d =
    let same : l ≡ m = cc in
    subst (λ (k : Line). IsRead s above k) same (h, e)
read_tests s above l m h (Err r) e d = absurd (cc)

-- the same of the words that a line has, or has not
read_words : (s : Setting) (above : List Statement) (m : Line) (t : Result (List (List ℕ)) Reason) → (t >>= (λ ws. line_made s.form (told above).version (told above).section (told above).rows_due (told above).row_width ws >>= (λ l. line_tested s (told above) l >>= (λ _. Ok l)))) ≡ Ok m → IsRead s above m
read_words s above m (Err r) e = absurd (cc)
read_words s above m (Ok ws) e = at_line (line_made s.form (told above).version (told above).section (told above).rows_due (told above).row_width ws) (line_here s above ws) e
  where
    at_line : (r : Result Line Reason) → IfOk r (IsLineHere s above) → (r >>= (λ l. line_tested s (told above) l >>= (λ _. Ok l))) ≡ Ok m → IsRead s above m
    at_line (Err r) h d = absurd (cc)
    at_line (Ok l) h d = read_tests s above l m h (line_tested s (told above) l) refl d

-- what a line says that was read is good for this
pub line_good : (s : Setting) (above : List Statement) (line : List ℕ) (l : Line) → line_read s (told above) line ≡ Ok l → IsRead s above l
line_good s above line l e = read_words s above l (words_read line) e

-- rows of a bitmap are due where glyphs and bitmaps are
pub rows_in_assets : (s : Setting) (above : List Statement) → AreGoodLines s above → ((told above).rows_due == 0) ≡ false → are_assets_due (told above).section ≡ true
rows_in_assets s [] g e = absurd (true≢false e)
rows_in_assets s (BitmapLine name w h d ∷ above) g e = g.0.here.1
rows_in_assets s (RowLine bytes ∷ above) g e = rows_in_assets s above g.1 g.0.here.0
rows_in_assets s (f ∷ above) g e = absurd (true≢false (sym g.0.here.0 ∙ e))

-- What lines give that were read to their end: they are good, and the input may end below them.
pub record AreWhole (s : Setting) (above : List Statement) : Type 0 where
  pub good : AreGoodLines s above
  pub ended : may_end s.form (told above).section ≡ true

-- at the end nothing is added
pub end_same : (s : Setting) (p q : Reached) → end_read s p ≡ Ok q → (p ≡ q) × (may_end s.form (told p.statements).section ≡ true)
end_same s p q e = go (may_end s.form (told p.statements).section) refl e
  where
    go : (b : Bool) → may_end s.form (told p.statements).section ≡ b → (at_number p.number (demand b Missing) >>= (λ _. Ok p)) ≡ Ok q → (p ≡ q) × (may_end s.form (told p.statements).section ≡ true)
    go true d h = (let same : Ok p ≡ Ok q = h in cc, d)
    go false d h = absurd (cc)

-- A property of statements that those have with the ones of each further line.
abbrev pub IsKept : (List Statement → Type 0) → Setting → Type 0
IsKept P s = (above : List Statement) (line : List ℕ) (l : Line) → line_read s (told above) line ≡ Ok l → P above → P (added (stands_for (told above) l) above)

pub line_keeps : (P : List Statement → Type 0) (s : Setting) → IsKept P s → (above : List Statement) (line : List ℕ) → P above → IfOk (statements_with s above line) P
line_keeps P s k above line h = go (is_skipped line)
  where
    at_read : (r : Result Line Reason) → line_read s (told above) line ≡ r → IfOk (r >>= (λ l. Ok (added (stands_for (told above) l) above))) P
    at_read (Ok l) e = k above line l e h
    at_read (Err r) e = tt

    go : (b : Bool) → IfOk (cond b (Ok above) (line_read s (told above) line >>= (λ l. Ok (added (stands_for (told above) l) above)))) P
    go true = h
    go false = at_read (line_read s (told above) line) refl

-- All statements that are read have it, and the input may end below them.
end_keeps : (P : List Statement → Type 0) (s : Setting) (p q : Reached) → P p.statements → end_read s p ≡ Ok q → P q.statements × (may_end s.form (told q.statements).section ≡ true)
end_keeps P s p q h e =
    let same = end_same s p q e in
    subst (λ (r : Reached). P r.statements × (may_end s.form (told r.statements).section ≡ true)) same.0 (h, same.1)

pub lines_keep : (P : List Statement → Type 0) (s : Setting) → IsKept P s → (p q : Reached) (ls : List (List ℕ)) → P p.statements → lines_read s p ls ≡ Ok q → P q.statements × (may_end s.form (told q.statements).section ≡ true)
lines_keep P s k p q [] h e = end_keeps P s p q h e
lines_keep P s k p q (line ∷ ls) h e =
    go (is_nothing_due (told p.statements).section) (λ statements g d. lines_keep P s k (with_line p line statements) q ls g d) e
  where
    Holds : Type 0
    Holds = P q.statements × (may_end s.form (told q.statements).section ≡ true)

    Next : Type 0
    Next = (statements : List Statement) → P statements → lines_read s (with_line p line statements) ls ≡ Ok q → Holds

    at_statements : (r : Result (List Statement) Reason) → IfOk r P → Next → (at_number p.number r >>= (λ statements. lines_read s (with_line p line statements) ls)) ≡ Ok q → Holds
    at_statements (Ok statements) g next d = next statements g d
    at_statements (Err r) g next d = absurd (cc)

    go : (b : Bool) → Next → cond b (end_read s p) (at_number p.number (statements_with s p.statements line) >>= (λ statements. lines_read s (with_line p line statements) ls)) ≡ Ok q → Holds
    go true next d = end_keeps P s p q h d
    go false next d = at_statements (statements_with s p.statements line) (line_keeps P s k p.statements line h) next d

-- a statement that passes its tests parts no window of two layers, and passes the others
at_parts : (s : Setting) (t : Told) (f : Statement) (b : Bool) → tested_with s t b f ≡ Ok tt → (b ≡ false) × (statement_tested s t f ≡ Ok tt)
at_parts s t f false h = (refl, h)
at_parts s t f true h =
    let a = passed (is_line_in_range t.version f) _ _ h in
    let b = passed (not (lacks_name t.bitmap_names f)) _ _ a.1 in
    let c = passed (not (gives_again t f)) _ _ b.1 in
    let refused : Err GzzReason ≡ Ok tt = c.1 in
    absurd (cc)

pub plain_tested : (s : Setting) (above : List Statement) (f : Statement) → line_tested s (told above) (StatementLine f) ≡ Ok tt → (parts_pair (told above).pairs f ≡ false) × (statement_tested s (told above) f ≡ Ok tt)
plain_tested s above f h = at_parts s (told above) f (parts_pair (told above).pairs f) h

-- the statements that a line stands for are good
pub lines_more : (s : Setting) → IsKept (AreGoodLines s) s
lines_more s above line l e g = go l (line_good s above line l e)
  where
    go : (l : Line) → IsRead s above l → AreGoodLines s (added (stands_for (told above) l) above)
    go (StatementLine f) h = (record { here = h.0; tested = (plain_tested s above f h.1).1 }, g)
    go (AreaLine layer pattern points) h = area_good s above layer pattern points h.0 h.1 g
    go (GzzLine name act) h = gzz_good s above name act h.0 h.1 g

-- a further line is good, or skipped
pub with_good : (s : Setting) (above : List Statement) (line : List ℕ) → AreGoodLines s above → IfOk (statements_with s above line) (AreGoodLines s)
with_good s above line g = line_keeps (AreGoodLines s) s (lines_more s) above line g

-- all lines that are read are good
lines_good : (s : Setting) (p q : Reached) (ls : List (List ℕ)) → AreGoodLines s p.statements → lines_read s p ls ≡ Ok q → AreWhole s q.statements
lines_good s p q ls g e =
    let k = lines_keep (AreGoodLines s) s (lines_more s) p q ls g e in
    record { good = k.0; ended = k.1 }

-- The input that bytes spell is that of good lines, below which an input may end.
pub record IsOfLines (s : Setting) (bytes : List ℕ) (input : ScriptInput) : Type 0 where
  pub reached : Reached
  pub lines_are : lines_read s at_the_top (lines bytes) ≡ Ok reached
  pub read : AreWhole s reached.statements
  pub is : input ≡ input_from s (told reached.statements) (min (length bytes) reached.place)

of_outcome : (s : Setting) (bytes : List ℕ) (input : ScriptInput) → outcome_of s bytes ≡ Ok input → IsOfLines s bytes input
of_outcome s bytes input h = go (lines_read s at_the_top (lines bytes)) refl h
  where
    go : (r : Result Reached (ℕ × Reason)) → lines_read s at_the_top (lines bytes) ≡ r → (r >>= (λ p. Ok (input_from s (told p.statements) (min (length bytes) p.place)))) ≡ Ok input → IsOfLines s bytes input
    go (Ok p) e d =
        record {
          reached = p;
          lines_are = e;
          read = lines_good s at_the_top p (lines bytes) tt e;
          is = let same : Ok (input_from s (told p.statements) (min (length bytes) p.place)) ≡ Ok input = d in cc;
        }
    go (Err r) e d = absurd (cc)

-- a line that is read, where one is due, is followed by the others
pub line_step : (s : Setting) (p : Reached) (line : List ℕ) (ls : List (List ℕ)) (statements : List Statement) → is_nothing_due (told p.statements).section ≡ false → statements_with s p.statements line ≡ Ok statements → lines_read s p (line ∷ ls) ≡ lines_read s (with_line p line statements) ls
line_step s p line ls statements due read = rw (due, read) refl

-- Further lines that are read up to where reading ends, below lines that were read up to p.
abbrev ReadAmong : Setting → Reached → Reached → List (List ℕ) → Type 0
ReadAmong s p q ls =
    (above : List (List ℕ)) × (below : List (List ℕ))
    × (ls ≡ above ++ below) × (q.place ≡ p.place + bytes_in_lines above) × AreGoodBelow s p.statements above q.statements × AreOutsideBelow q.statements below × (may_end s.form (told q.statements).section ≡ true)

reads_among : (s : Setting) (p q : Reached) (ls : List (List ℕ)) → lines_read s p ls ≡ Ok q → ReadAmong s p q ls
reads_among s p q [] e =
    let same = end_same s p q e in
    let far : p.place ≡ p.place + 0 = omega arith in
    subst (λ (r : Reached). ReadAmong s p r []) same.0 ([], [], refl, far, refl, tt, same.1)
reads_among s p q (line ∷ ls) e =
    go (is_nothing_due (told p.statements).section) refl (λ more d. reads_among s (with_line p line more) q ls d) e
  where
    Next : Type 0
    Next = (more : List Statement) → lines_read s (with_line p line more) ls ≡ Ok q → ReadAmong s (with_line p line more) q ls

    at_statements : (r : Result (List Statement) Reason) → statements_with s p.statements line ≡ r → is_nothing_due (told p.statements).section ≡ false → Next → (at_number p.number r >>= (λ more. lines_read s (with_line p line more) ls)) ≡ Ok q → ReadAmong s p q (line ∷ ls)
    at_statements (Ok more) k due next d =
        let b = next more d in
        let far : q.place ≡ (p.place + (length line + 1)) + bytes_in_lines b.0 = b.3 in
        let same : q.place ≡ p.place + ((length line + 1) + bytes_in_lines b.0) = omega (arith, far) in
        (line ∷ b.0, b.1, ap (λ l. line ∷ l) b.2, same, (due, more, k, b.4), b.5, b.6)
    at_statements (Err r) k due next d = absurd (cc)

    go : (b : Bool) → is_nothing_due (told p.statements).section ≡ b → Next → cond b (end_read s p) (at_number p.number (statements_with s p.statements line) >>= (λ more. lines_read s (with_line p line more) ls)) ≡ Ok q → ReadAmong s p q (line ∷ ls)
    go true due next d =
        let same = end_same s p q d in
        let far : p.place ≡ p.place + 0 = omega arith in
        subst (λ (r : Reached). ReadAmong s p r (line ∷ ls)) same.0 ([], line ∷ ls, refl, far, refl, due, same.1)
    go false due next d = at_statements (statements_with s p.statements line) refl due next d

-- reading ends where no further line of the script stands, and the input may end
ends_read : (s : Setting) (p : Reached) (below : List (List ℕ)) → AreOutsideBelow p.statements below → may_end s.form (told p.statements).section ≡ true → lines_read s p below ≡ Ok p
ends_read s p [] h e = rw e refl
ends_read s p (line ∷ ls) h e = rw (h, e) refl

-- How far good lines are read.
abbrev IsReadTo : Setting → Reached → List (List ℕ) → List (List ℕ) → List Statement → Reached → Type 0
IsReadTo s p above below statements q =
    (lines_read s p (above ++ below) ≡ Ok q) × (q.statements ≡ statements) × (q.place ≡ p.place + bytes_in_lines above)

reads_below : (s : Setting) (p : Reached) (above below : List (List ℕ)) (statements : List Statement) → AreGoodBelow s p.statements above statements → AreOutsideBelow statements below → may_end s.form (told statements).section ≡ true → (q : Reached) × IsReadTo s p above below statements q
reads_below s p [] below statements r h e =
    let far : p.place ≡ p.place + 0 = omega arith in
    let ended : may_end s.form (told p.statements).section ≡ true = ap (λ (a : List Statement). may_end s.form (told a).section) r ∙ e in
    (p, (ends_read s p below (subst (λ a. AreOutsideBelow a below) (sym r) h) ended, r, far))
reads_below s p (line ∷ above) below statements r h e =
    let rest = reads_below s (with_line p line r.1) above below statements r.3 h e in
    let far : rest.0.place ≡ (p.place + (length line + 1)) + bytes_in_lines above = rest.1.2 in
    let same : rest.0.place ≡ p.place + ((length line + 1) + bytes_in_lines above) = omega (arith, far) in
    (rest.0, (line_step s p line (above ++ below) r.1 r.0 r.2 ∙ rest.1.0, rest.1.1, same))

-- the input that reading gives is spelled
pub outcome_spells : (s : Setting) (bytes : List ℕ) (input : ScriptInput) → outcome_of s bytes ≡ Ok input → SpellsInput s bytes input
outcome_spells s bytes input h =
    let l = of_outcome s bytes input h in
    let b = reads_among s at_the_top l.reached (lines bytes) l.lines_are in
    let far : l.reached.place ≡ 0 + bytes_in_lines b.0 = b.3 in
    let place : l.reached.place ≡ bytes_in_lines b.0 = omega (arith, far) in
    record {
      above = b.0;
      below = b.1;
      statements = l.reached.statements;
      lines_are = b.2;
      read = b.4;
      others = b.5;
      ended = b.6;
      gives = l.is ∙ ap (λ n. input_from s (told l.reached.statements) (min (length bytes) n)) place;
    }

-- and an input that is spelled is given
pub spells_outcome : (s : Setting) (bytes : List ℕ) (input : ScriptInput) → SpellsInput s bytes input → outcome_of s bytes ≡ Ok input
spells_outcome s bytes input k =
    let r = reads_below s at_the_top k.above k.below k.statements k.read k.others k.ended in
    let read : lines_read s at_the_top (lines bytes) ≡ Ok r.0 = ap (lines_read s at_the_top) k.lines_are ∙ r.1.0 in
    let far : r.0.place ≡ 0 + bytes_in_lines k.above = r.1.2 in
    let place : r.0.place ≡ bytes_in_lines k.above = omega (arith, far) in
    ap (λ o. o >>= (λ p. Ok (input_from s (told p.statements) (min (length bytes) p.place)))) read
    ∙ ap (λ (a : List Statement). Ok (input_from s (told a) (min (length bytes) r.0.place))) r.1.1
    ∙ ap (λ n. Ok (input_from s (told k.statements) (min (length bytes) n))) place
    ∙ ap (λ i. Ok i) (sym k.gives)

pub of_lines : (s : Setting) (bytes : List ℕ) (input : ScriptInput) → SpellsInput s bytes input → IsOfLines s bytes input
of_lines s bytes input k = of_outcome s bytes input (spells_outcome s bytes input k)

-- Nothing is due below a line `report` alone, and there an input may end.
report_ends : (s : Setting) (above : List Statement) → AreGoodLines s above → is_nothing_due (told above).section ≡ true → may_end s.form (told above).section ≡ true
report_ends s above g e = go s.form (audited above g e)
  where
    audited : (fs : List Statement) → AreGoodLines s fs → is_nothing_due (told fs).section ≡ true → is_audited s.form ≡ true
    audited [] h d = absurd (true≢false (sym d))
    audited (ScreenLine w h d ∷ fs) k i = absurd (true≢false (sym i))
    audited (TaskLine name ∷ fs) k i = absurd (true≢false (sym i))
    audited (EndLine ∷ fs) k i = absurd (true≢false (sym i))
    audited (OrderLine ∷ fs) k i = absurd (true≢false (sym i))
    audited (ReportLine ∷ fs) k i = (and_parts (are_tasks_due (told fs).section) (is_audited s.form) k.0.here.1).1
    audited (f ∷ fs) k i = audited fs k.1 i

    go : (form : Form) → is_audited form ≡ true → may_end form (told above).section ≡ true
    go Plain d = absurd (true≢false (sym d))
    go Ordered d = absurd (true≢false (sym d))
    go Audited d = e

-- a line that can't be read isn't skipped
unread : (s : Setting) (above : List Statement) (line : List ℕ) (reason : Reason) → statements_with s above line ≡ Err reason → (is_skipped line ≡ false) × (line_read s (told above) line ≡ Err reason)
unread s above line reason e = go (is_skipped line) refl e
  where
    at_read : (r : Result Line Reason) → (r >>= (λ l. Ok (added (stands_for (told above) l) above))) ≡ Err reason → r ≡ Err reason
    at_read (Ok l) d = absurd (cc)
    at_read (Err q) d = let same : Err q ≡ Err reason = d in cc

    go : (b : Bool) → is_skipped line ≡ b → cond b (Ok above) (line_read s (told above) line >>= (λ l. Ok (added (stands_for (told above) l) above))) ≡ Err reason → (is_skipped line ≡ false) × (line_read s (told above) line ≡ Err reason)
    go true k d = absurd (cc)
    go false k d = (k, at_read (line_read s (told above) line) d)

-- what is found is no error
no_error : {A B : Type 0} (a : A) (e : B) → Ok a ≡ Err e → ⊥
no_error a e h = absurd (cc)

-- The first bad one of further lines, the first of which has this number, below lines with these statements.
abbrev BadAmong : Setting → List Statement → ℕ → List (List ℕ) → ℕ → Reason → Type 0
BadAmong s start from ls n reason =
    (above : List (List ℕ)) × (below : List (List ℕ)) × (statements : List Statement)
    × (ls ≡ above ++ below) × (n ≡ length above + from) × AreGoodBelow s start above statements × IsBadBelow s statements below reason

stops_among : (s : Setting) (p : Reached) (ls : List (List ℕ)) (n : ℕ) (reason : Reason) → AreGoodLines s p.statements → lines_read s p ls ≡ Err (n, reason) → BadAmong s p.statements p.number ls n reason
stops_among s p [] n reason g e = at_end (may_end s.form (told p.statements).section) refl e
  where
    at_end : (b : Bool) → may_end s.form (told p.statements).section ≡ b → (at_number p.number (demand b Missing) >>= (λ _. Ok p)) ≡ Err (n, reason) → BadAmong s p.statements p.number [] n reason
    at_end true d h = absurd (cc)
    at_end false d h =
        let both : Err (p.number, Missing) ≡ Err (n, reason) = h in
        let same : (p.number, Missing) ≡ (n, reason) = cc in
        let here : p.number ≡ n = ap (λ (x : ℕ × Reason). x.0) same in
        let far : n ≡ 0 + p.number = omega (arith, here) in
        ([], [], p.statements, refl, far, refl, (d, sym (ap (λ (x : ℕ × Reason). x.1) same)))
stops_among s p (line ∷ ls) n reason g e =
    go (is_nothing_due (told p.statements).section) refl (λ more h d. stops_among s (with_line p line more) ls n reason h d) e
  where
    Next : Type 0
    Next = (more : List Statement) → AreGoodLines s more → lines_read s (with_line p line more) ls ≡ Err (n, reason) → BadAmong s more (p.number + 1) ls n reason

    whole : is_nothing_due (told p.statements).section ≡ true → (at_number p.number (demand (may_end s.form (told p.statements).section) Missing) >>= (λ _. Ok p)) ≡ Ok p
    whole d = ap (λ b. at_number p.number (demand b Missing) >>= (λ _. Ok p)) (report_ends s p.statements g d)

    at_statements : (r : Result (List Statement) Reason) → statements_with s p.statements line ≡ r → IfOk r (AreGoodLines s) → is_nothing_due (told p.statements).section ≡ false → Next → (at_number p.number r >>= (λ more. lines_read s (with_line p line more) ls)) ≡ Err (n, reason) → BadAmong s p.statements p.number (line ∷ ls) n reason
    at_statements (Ok more) k h due next d =
        let b = next more h d in
        let far : n ≡ length b.0 + (p.number + 1) = b.4 in
        let same : n ≡ suc (length b.0) + p.number = omega (arith, far) in
        (line ∷ b.0, b.1, b.2, ap (λ l. line ∷ l) b.3, same, (due, more, k, b.5), b.6)
    at_statements (Err q) k h due next d =
        let both : Err (p.number, q) ≡ Err (n, reason) = d in
        let same : (p.number, q) ≡ (n, reason) = cc in
        let is : q ≡ reason = ap (λ (x : ℕ × Reason). x.1) same in
        let here : p.number ≡ n = ap (λ (x : ℕ × Reason). x.0) same in
        let far : n ≡ 0 + p.number = omega (arith, here) in
        let bad = unread s p.statements line reason (k ∙ ap Err is) in
        ([], line ∷ ls, p.statements, refl, far, refl, (due, bad.0, bad.1))

    go : (b : Bool) → is_nothing_due (told p.statements).section ≡ b → Next → cond b (end_read s p) (at_number p.number (statements_with s p.statements line) >>= (λ more. lines_read s (with_line p line more) ls)) ≡ Err (n, reason) → BadAmong s p.statements p.number (line ∷ ls) n reason
    go true due next d = absurd (no_error p (n, reason) (sym (whole due) ∙ d))
    go false due next d = at_statements (statements_with s p.statements line) refl (with_good s p.statements line g) due next d

-- where reading stops, the first bad line is
pub stops_at : (s : Setting) (ls : List (List ℕ)) (n : ℕ) (reason : Reason) → lines_read s at_the_top ls ≡ Err (n, reason) → IsFirstBadIn s ls n reason
stops_at s ls n reason e =
    let b = stops_among s at_the_top ls n reason tt e in
    record { above = b.0; below = b.1; statements = b.2; lines_are = b.3; number = b.4; read = b.5; bad = b.6 }

-- at a bad line reading stops
bad_stops : (s : Setting) (p : Reached) (below : List (List ℕ)) (reason : Reason) → IsBadBelow s p.statements below reason → lines_read s p below ≡ Err (p.number, reason)
bad_stops s p [] reason b = rw (b.0, b.1) refl
bad_stops s p (line ∷ ls) reason b =
    let refused : statements_with s p.statements line ≡ Err reason = rw (b.1, b.2) refl in
    rw (b.0, refused) refl

-- and so it does below lines that are read
stops_below : (s : Setting) (p : Reached) (above below : List (List ℕ)) (statements : List Statement) (reason : Reason) → AreGoodBelow s p.statements above statements → IsBadBelow s statements below reason → lines_read s p (above ++ below) ≡ Err (length above + p.number, reason)
stops_below s p [] below statements reason r b =
    let near : p.number ≡ 0 + p.number = omega arith in
    bad_stops s p below reason (subst (λ a. IsBadBelow s a below reason) (sym r) b) ∙ ap (λ k. Err (k, reason)) near
stops_below s p (line ∷ above) below statements reason r b =
    let rest = stops_below s (with_line p line r.1) above below statements reason r.3 b in
    let far : length above + (p.number + 1) ≡ suc (length above) + p.number = omega arith in
    line_step s p line (above ++ below) r.1 r.0 r.2 ∙ rest ∙ ap (λ k. Err (k, reason)) far

pub bad_is_read : (s : Setting) (ls : List (List ℕ)) (n : ℕ) (reason : Reason) → IsFirstBadIn s ls n reason → lines_read s at_the_top ls ≡ Err (n, reason)
bad_is_read s ls n reason b =
    ap (lines_read s at_the_top) b.lines_are ∙ stops_below s at_the_top b.above b.below b.statements reason b.read b.bad ∙ ap (λ k. Err (k, reason)) (sym b.number)

-- what lines give that were read decides their bytes
pub reads_decide : (s : Setting) (bytes : List ℕ) → MatchResult (lines_read s at_the_top (lines bytes)) (λ p. SpellsInput s bytes (input_from s (told p.statements) (min (length bytes) p.place))) (λ e. IsFirstBadIn s (lines bytes) e.0 e.1)
reads_decide s bytes = go (lines_read s at_the_top (lines bytes)) refl
  where
    go : (r : Result Reached (ℕ × Reason)) → lines_read s at_the_top (lines bytes) ≡ r → MatchResult r (λ p. SpellsInput s bytes (input_from s (told p.statements) (min (length bytes) p.place))) (λ e. IsFirstBadIn s (lines bytes) e.0 e.1)
    go (Ok p) e = outcome_spells s bytes _ (ap (λ r. r >>= (λ q. Ok (input_from s (told q.statements) (min (length bytes) q.place)))) e)
    go (Err r) e = stops_at s (lines bytes) r.0 r.1 e

-- a refusal is that of the first bad line
pub refused_outcome : (s : Setting) (bytes : List ℕ) (n : ℕ) (r : Reason) → outcome_of s bytes ≡ Err (n, r) → IsFirstBadIn s (lines bytes) n r
refused_outcome s bytes n r e = stops_at s (lines bytes) n r (go (lines_read s at_the_top (lines bytes)) e)
  where
    go : (o : Result Reached (ℕ × Reason)) → (o >>= (λ p. Ok (input_from s (told p.statements) (min (length bytes) p.place)))) ≡ Err (n, r) → o ≡ Err (n, r)
    go (Ok p) d = absurd (cc)
    go (Err x) d = let same : Err x ≡ Err (n, r) = d in cc

-- and the first bad line is refused
pub outcome_refused : (s : Setting) (bytes : List ℕ) (n : ℕ) (r : Reason) → IsFirstBadIn s (lines bytes) n r → outcome_of s bytes ≡ Err (n, r)
outcome_refused s bytes n r b =
    ap (λ o. o >>= (λ q. Ok (input_from s (told q.statements) (min (length bytes) q.place)))) (bad_is_read s (lines bytes) n r b)

-- no bytes have a first bad line and spell an input
pub bad_or_spelled : (s : Setting) (bytes : List ℕ) (n : ℕ) (r : Reason) (p : ScriptInput) → IsFirstBadIn s (lines bytes) n r → SpellsInput s bytes p → ⊥
bad_or_spelled s bytes n r p b k =
    no_error p (n, r) (sym (spells_outcome s bytes p k) ∙ outcome_refused s bytes n r b)

-- the first bad line is one, with one reason
pub one_bad_line : (s : Setting) (ls : List (List ℕ)) (m n : ℕ) (r q : Reason) → IsFirstBadIn s ls m r → IsFirstBadIn s ls n q → (m ≡ n) × (r ≡ q)
one_bad_line s ls m n r q a b =
    let both : Err (m, r) ≡ Err (n, q) = sym (bad_is_read s ls m r a) ∙ bad_is_read s ls n q b in
    let same : (m, r) ≡ (n, q) = cc in
    (ap (λ (p : ℕ × Reason). p.0) same, ap (λ (p : ℕ × Reason). p.1) same)

-- bytes spell one input
pub one_spelled : (s : Setting) (bytes : List ℕ) (p q : ScriptInput) → SpellsInput s bytes p → SpellsInput s bytes q → p ≡ q
one_spelled s bytes p q a b = let both : Ok p ≡ Ok q = sym (spells_outcome s bytes p a) ∙ spells_outcome s bytes q b in cc

-- bytes either have a first bad line, which is one, or spell an input, which is one
pub input_decided : (s : Setting) (bytes : List ℕ) → IsDecidedIn s bytes
input_decided s bytes =
    record {
      either = found (lines_read s at_the_top (lines bytes)) (reads_decide s bytes);
      not_both = bad_or_spelled s bytes;
      one_line = one_bad_line s (lines bytes);
      one_input = one_spelled s bytes;
    }
  where
    found : (r : Result Reached (ℕ × Reason)) → MatchResult r (λ p. SpellsInput s bytes (input_from s (told p.statements) (min (length bytes) p.place))) (λ e. IsFirstBadIn s (lines bytes) e.0 e.1) → ((n : ℕ) × (reason : Reason) × IsFirstBadIn s (lines bytes) n reason) ⊎ ((input : ScriptInput) × SpellsInput s bytes input)
    found (Ok p) h = inr (input_from s (told p.statements) (min (length bytes) p.place), h)
    found (Err e) h = inl (e.0, e.1, h)
