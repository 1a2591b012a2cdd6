-- A line of a task is read in a script alone as it was read where it stood.
use Rattle.std.proofs.Common.{◌≡◌, ℕ, ◌==◌, Bool, true, false, ◌||◌, nat_lt, List, [], ◌∷◌, length, bytes_eq, Option, None, Some, is_none, Result, Ok, ok_or, not, cond, map, refl, sym, ap, ap₂, subst, ◌∙◌, arith}
use Rattle.std.specs.List.{list_any, list_all}
use Rattle.lw_calls.specs.declared.operation.RectOp.TheVariants.{Or as OrR}
use Rattle.lw_calls.specs.declared.operation.PairOp.TheVariants.{Or as OrP}
use Rattle.lw_calls.specs.declared.limits.Limits.{Limits}
use Rattle.lw_calls.specs.Limits.{limits_of}
use Rattle.lw_grammar.specs.declared.form.Form.{Form}
use Rattle.lw_grammar.specs.declared.reason.Reason.{Reason}
use Rattle.lw_grammar.specs.declared.reason.Reason.TheVariants.{UnknownWord, Misplaced, Form as FormReason}
use Rattle.lw_grammar.specs.declared.verb.Verb.{Verb}
use Rattle.lw_grammar.specs.declared.verb.Verb.TheVariants.{Part}
use Rattle.lw_grammar.specs.declared.verb.PartVerb.TheVariants.{Order as OrderVerb, Report as ReportVerb}
use Rattle.lw_grammar.specs.Demands.{◌>>=◌, demand}
use Rattle.lw_grammar.specs.Tokens.{Token, token_of}
use Rattle.lw_grammar.specs.declared.verb.BareVerb.TheVariants.{Close as CloseVerb}
use Rattle.lw_grammar.specs.declared.verb.NumberVerb.TheVariants.{APen as APenVerb}
use Rattle.lw_grammar.specs.declared.verb.PairVerb.TheVariants.{Move as MoveVerb}
use Rattle.lw_grammar.specs.declared.verb.TextVerb.TheVariants.{Text as TextOf}
use Rattle.lw_grammar.specs.Statements.{Act, BareAct, NumberAct, PairAct, TextAct, RegRectAct, RegPairAct, Statement, GlyphLine, BitmapLine, RowLine, PatternLine, TaskLine, OrderLine, NumbersLine, ReportLine, CallLine, NameWithoutSlot, PairMade, GzzAct, OpenGzz, BoxGzz, FrontGzz, BehindGzz, InFrontGzz, CloseGzz, Line, StatementLine, GzzLine, row_line, numbers_line, line_by, is_line_in_range, is_gzz_in_range}
use Rattle.lw_grammar.specs.Told.{Section, ScreenIsDue, AssetsAreDue, CallsAreDue, TasksAreDue, NumbersAreDue, NothingIsDue, OpenGroup, NamedPair, Told, hook_on, gzz_lines, stands_for, told, told_all}
use Rattle.lw_grammar.specs.Script.{Setting, is_skipped, are_assets_due, are_calls_due, are_tasks_due, is_nothing_due, lacks_name, gives_again, fits_group, are_few, is_hook_named, has_padding, parts_pair, stands_above, lacks_pair, names_again, comes_between, are_numbers_due, is_known_in, belongs_in, verb_on, after_verb, verb_read, stated as stated_line, line_made, tested_with, gzz_tested, line_tested, line_read, added}
use Rattle.lw_canonical.specs.Spelling.{joined, call_words, words_of, spelled, gzz_words, written}
use Rattle.lw_grammar.proofs.ScriptSizes.{IsStatementTested, tests_pass, few_counted, counted_few}
use Rattle.lw_canonical.proofs.Rearranged.{is_of_tasks, alone}
use Rattle.lw_grammar.proofs.GzzLines.{IsGzzTested, gzz_passed}
use Rattle.lw_grammar.proofs.AreaLines.{told_added}
use Rattle.lw_canonical.proofs.OneSpelling.{line_reading}
use Rattle.lw_canonical.proofs.ReadsAgain.{is_in_each, form_kept, verb_statements, read_again}
use Rattle.lw_canonical.proofs.NotionsAlike.{section_alone, AreAlike, alike_more}
use Rattle.std.proofs.lemmas.Bool.{true≢false, false≢true, not_from_false, and_parts, or_parts, or_from}

-- the first of a line's words
abbrev first_word : List (List ℕ) → List ℕ
first_word [] = []
first_word (w ∷ ws) = w

-- words are skipped by their first one
first_kept : (ws : List (List ℕ)) → is_skipped (first_word ws) ≡ false → is_skipped (joined ws) ≡ false
first_kept [] h = h
first_kept (w ∷ []) h = h
first_kept ([] ∷ v ∷ ws) h = absurd (true≢false h)
first_kept ((b ∷ bs) ∷ v ∷ ws) h = h

-- no call is skipped
call_kept : (layers : List (List ℕ)) (act : Act) → is_skipped (first_word (call_words layers act)) ≡ false
call_kept layers (RegRectAct OrR r rect) = refl
call_kept layers (RegPairAct OrP s r) = refl
call_kept layers (BareAct CloseVerb) = refl
call_kept layers (NumberAct APenVerb z) = refl
call_kept layers (PairAct MoveVerb x y) = refl
call_kept layers (TextAct TextOf text) = refl
call_kept layers act = refl

-- a line may stand for the statement alone
abbrev pub has_line : Statement → Bool
has_line (NameWithoutSlot name) = false
has_line (PairMade outer inner) = false
has_line f = true

-- so it is of what was read
pub read_has_line : (s : Setting) (t : Told) (f : Statement) → line_read s t (spelled f) ≡ Ok (StatementLine f) → has_line f ≡ true
read_has_line s t (NameWithoutSlot name) e = absurd (cc)
read_has_line s t (PairMade outer inner) e = absurd (cc)
read_has_line s t f e = refl

-- neither is another line of tasks
task_kept : (f : Statement) → is_of_tasks f ≡ true → has_line f ≡ true → is_skipped (first_word (words_of f)) ≡ false
task_kept (RowLine bytes) t l = absurd (false≢true t)
task_kept (NumbersLine zs) t l = absurd (false≢true t)
task_kept (NameWithoutSlot name) t l = absurd (false≢true t)
task_kept (PairMade outer inner) t l = absurd (false≢true l)
task_kept (CallLine layers act) t l = call_kept layers act
task_kept f t l = refl

pub task_not_skipped : (f : Statement) → is_of_tasks f ≡ true → has_line f ≡ true → is_skipped (spelled f) ≡ false
task_not_skipped f t l = first_kept (words_of f) (task_kept f t l)

-- nor what is done with a window of two layers
gzz_kept : (g : List ℕ) (act : GzzAct) → is_skipped (first_word (gzz_words g act)) ≡ false
gzz_kept g (OpenGzz inner kind place r classes title) = refl
gzz_kept g (BoxGzz r) = refl
gzz_kept g FrontGzz = refl
gzz_kept g BehindGzz = refl
gzz_kept g (InFrontGzz m) = refl
gzz_kept g CloseGzz = refl

pub gzz_not_skipped : (g : List ℕ) (act : GzzAct) → is_skipped (written (GzzLine g act)) ≡ false
gzz_not_skipped g act = first_kept (gzz_words g act) (gzz_kept g act)

-- it stands in each input
task_in_each : (f : Statement) → is_of_tasks f ≡ true → is_in_each f ≡ true
task_in_each OrderLine t = absurd (false≢true t)
task_in_each ReportLine t = absurd (false≢true t)
task_in_each f t = refl

-- where glyphs, bitmaps and the first task are due, or calls, or a further task
abbrev pub is_inner : Section → Bool
is_inner c = are_assets_due c || (are_calls_due c || are_tasks_due c)

-- such a section is the same in a script alone, where something is due in it
pub record IsInner (c : Section) : Type 0 where
  pub nothing : is_nothing_due c ≡ false
  pub same : section_alone c ≡ c

pub inner : (c : Section) → is_inner c ≡ true → IsInner c
inner ScreenIsDue e = absurd (false≢true e)
inner AssetsAreDue e = record { nothing = refl; same = refl }
inner CallsAreDue e = record { nothing = refl; same = refl }
inner TasksAreDue e = record { nothing = refl; same = refl }
inner NumbersAreDue e = absurd (false≢true e)
inner NothingIsDue e = absurd (false≢true e)

-- Below lines that tell the same, words of tasks have the same statement in a script alone.
statement_alone : (s : Setting) (above new : List Statement) (f : Statement) (ws : List (List ℕ)) → is_of_tasks f ≡ true → ((told above).rows_due == 0) ≡ true → is_inner (told above).section ≡ true → AreAlike above new → line_made s.form (told above).version (told above).section (told above).rows_due (told above).row_width ws ≡ Ok (StatementLine f) → line_made (alone s).form (told new).version (told new).section (told new).rows_due (told new).row_width ws ≡ Ok (StatementLine f)
statement_alone s above new f ws o e c a read =
    let i = inner (told above).section c in
    let P : ℕ → Type 0 = λ version. verb_read (alone s).form version (told above).section ws ≡ Ok (StatementLine f) in
    verb_statements s (alone s) above new (told above).section f e (ap (λ n. n == 0) a.due) refl (a.section ∙ i.same) ws (λ d. subst P (sym a.version) (form_kept s.form (alone s).form (told above).version (told above).section f (task_in_each f o) ws d)) read

-- what is few of lines is few of lines that tell the same
few_alike : (limits : Limits) (above new : List Statement) → AreAlike above new → are_few limits (told above) ≡ true → are_few limits (told new) ≡ true
few_alike limits above new a few =
    let c = few_counted limits (told above) few in
    let tasks = ap length a.tasks in
    let bitmaps = ap length a.bitmap_names in
    let patterns : length (told new).pattern_names ≡ 0 = ap length a.patterns in
    let names = ap length a.names in
    counted_few limits (told new) (record {
      tasks = omega (arith, tasks, c.tasks);
      bitmaps = omega (arith, bitmaps, c.bitmaps);
      patterns = omega (arith, patterns);
      names = omega (arith, names, c.names);
      supers = omega (arith, a.supers, c.supers);
      calls = omega (arith, a.calls_in_task, c.calls);
    })

-- a task's name is new below such lines if it was
same_again : (above new : List Statement) (f : Statement) → is_of_tasks f ≡ true → AreAlike above new → gives_again (told new) f ≡ gives_again (told above) f
same_again above new (GlyphLine code rows) t a = absurd (false≢true t)
same_again above new (PatternLine name words) t a = absurd (false≢true t)
same_again above new (BitmapLine name w h d) t a = absurd (false≢true t)
same_again above new (TaskLine name) t a = ap (list_any (bytes_eq name)) a.tasks
same_again above new f t a = refl

-- no line of tasks is padded
not_padded : (width : ℕ) (f : Statement) → is_of_tasks f ≡ true → has_padding width f ≡ false
not_padded width (RowLine bytes) t = absurd (false≢true t)
not_padded width f t = refl

-- a line fits the open group below such lines if it did
same_fit : (above new : List Statement) (f : Statement) → AreAlike above new → fits_group (told new).group (nat_lt (told new).calls_before_group (told new).calls_in_task) f ≡ fits_group (told above).group (nat_lt (told above).calls_before_group (told above).calls_in_task) f
same_fit above new f a =
    ap (λ (g : Option OpenGroup). fits_group g (nat_lt (told new).calls_before_group (told new).calls_in_task) f) a.group
    ∙ (ap (λ n. fits_group (told above).group (nat_lt n (told new).calls_in_task) f) a.calls_before_group ∙ ap (λ n. fits_group (told above).group (nat_lt (told above).calls_before_group n) f) a.calls_in_task)

-- Below lines that tell the same, a statement of tasks meets the same tests.
tests_alone : (s : Setting) (above new : List Statement) (f : Statement) → is_of_tasks f ≡ true → AreAlike above new → IsStatementTested s above f → IsStatementTested (alone s) new f
tests_alone s above new f o a t =
    record {
      range = ap (λ version. is_line_in_range version f) a.version ∙ t.range;
      named = ap (λ names. lacks_name names f) a.bitmap_names ∙ t.named;
      new = same_again above new f o a ∙ t.new;
      group = same_fit above new f a ∙ t.group;
      few = ap (λ version. are_few (limits_of version) (told (f ∷ new))) a.version ∙ few_alike (limits_of (told above).version) (f ∷ above) (f ∷ new) (alike_more above new a f o) t.few;
      hook = t.hook;
      unused = ap (λ hooks. is_hook_named hooks (hook_on f)) a.hooks ∙ t.unused;
      padding = not_padded (told new).row_width f o;
    }

-- Below lines that tell the same, a line of tasks is read as the same statement in a script alone.
pub read_alone : (s : Setting) (above new : List Statement) (f : Statement) (line : List ℕ) → is_of_tasks f ≡ true → ((told above).rows_due == 0) ≡ true → is_inner (told above).section ≡ true → AreAlike above new → IsStatementTested s above f → parts_pair (told above).pairs f ≡ false → line_read s (told above) line ≡ Ok (StatementLine f) → line_read (alone s) (told new) line ≡ Ok (StatementLine f)
read_alone s above new f line o e c a t apart read =
    let P : Bool → Type 0 = λ b. tested_with (alone s) (told new) b f ≡ Ok tt in
    let still : parts_pair (told new).pairs f ≡ false = ap (λ (pairs : List NamedPair). parts_pair pairs f) a.pairs ∙ apart in
    let tested : line_tested (alone s) (told new) (StatementLine f) ≡ Ok tt = subst P (sym still) (tests_pass (alone s) new f (tests_alone s above new f o a t)) in
    read_again s (alone s) above new line (StatementLine f) (λ ws k. statement_alone s above new f ws o e c a k) tested read

-- In a task, what a line says doesn't depend on the input.
any_form : (a b : Form) (version : ℕ) (ws : List (List ℕ)) → verb_read a version CallsAreDue ws ≡ verb_read b version CallsAreDue ws
any_form a b version ws = at_verb (map token_of (after_verb ws)) (verb_on ws)
  where
    read : Form → List Token → Option Verb → Result Line Reason
    read form ts o = ok_or o UnknownWord >>= (λ v. demand (is_known_in version v) UnknownWord >>= (λ _. demand (belongs_in form version CallsAreDue v) Misplaced >>= (λ _. ok_or (line_by v ts) FormReason)))

    at_verb : (ts : List Token) (o : Option Verb) → read a ts o ≡ read b ts o
    at_verb ts None = refl
    at_verb ts (Some (Part OrderVerb)) = refl
    at_verb ts (Some (Part ReportVerb)) = refl
    at_verb ts (Some v) = refl

-- it is a line with a verb
in_task : (u : Setting) (lines : List Statement) (ws : List (List ℕ)) → ((told lines).rows_due == 0) ≡ true → (told lines).section ≡ CallsAreDue → line_made u.form (told lines).version (told lines).section (told lines).rows_due (told lines).row_width ws ≡ verb_read u.form (told lines).version CallsAreDue ws
in_task u lines ws e c =
    λ i. cond (not (e i)) (ok_or (stated_line (row_line (told lines).row_width (map token_of ws))) FormReason) (cond (are_numbers_due (c i)) (ok_or (stated_line (numbers_line (map token_of ws))) FormReason) (verb_read u.form (told lines).version (c i) ws))

-- statements of tasks that are added to both
pub all_alike : (fs above new : List Statement) → list_all is_of_tasks fs ≡ true → AreAlike above new → AreAlike (added fs above) (added fs new)
all_alike [] above new h a = a
all_alike (f ∷ fs) above new h a =
    let k = and_parts (is_of_tasks f) (list_all is_of_tasks fs) h in
    all_alike fs (f ∷ above) (f ∷ new) k.1 (alike_more above new a f k.0)

-- so are all statements of what is done with a window of two layers
pub gzz_of_tasks : (pairs : List NamedPair) (g : List ℕ) (act : GzzAct) → list_all is_of_tasks (gzz_lines pairs g act) ≡ true
gzz_of_tasks pairs g (OpenGzz inner kind place r classes title) = refl
gzz_of_tasks pairs g (BoxGzz r) = refl
gzz_of_tasks pairs g FrontGzz = refl
gzz_of_tasks pairs g BehindGzz = refl
gzz_of_tasks pairs g (InFrontGzz m) = refl
gzz_of_tasks pairs g CloseGzz = refl

-- where it stands for the same
pub same_gzz : (above new : List Statement) (g : List ℕ) (act : GzzAct) → AreAlike above new → stands_for (told new) (GzzLine g act) ≡ stands_for (told above) (GzzLine g act)
same_gzz above new g act a = ap (λ (pairs : List NamedPair). gzz_lines pairs g act) a.pairs

-- names that don't stand above don't below lines that tell the same
not_again : (above new : List Statement) (name : List ℕ) → AreAlike above new → stands_above (told above) name ≡ false → stands_above (told new) name ≡ false
not_again above new name a h =
    let k = or_parts (list_any (bytes_eq name) (told above).names) _ h in
    or_from _ _ (ap (list_any (bytes_eq name)) a.names ∙ k.0) (ap (list_any (bytes_eq name)) a.names_without_slot)

not_names_again : (above new : List Statement) (g : List ℕ) (act : GzzAct) → AreAlike above new → names_again (told above) g act ≡ false → names_again (told new) g act ≡ false
not_names_again above new g (OpenGzz inner kind place r classes title) a h =
    let k = or_parts (stands_above (told above) g || stands_above (told above) inner) _ h in
    let m = or_parts (stands_above (told above) g) _ k.0 in
    or_from _ _ (or_from _ _ (not_again above new g a m.0) (not_again above new inner a m.1)) k.1
not_names_again above new g act a h = refl

-- each test that holds is passed
demand_passes : (b : Bool) (r : Reason) (t : Result (Unit {0}) Reason) → b ≡ true → t ≡ Ok tt → (demand b r >>= (λ _. t)) ≡ Ok tt
demand_passes true r t e h = h
demand_passes false r t e h = absurd (false≢true e)

last_passes : (b : Bool) (r : Reason) → b ≡ true → demand b r ≡ Ok tt
last_passes true r e = refl
last_passes false r e = absurd (false≢true e)

gzz_pass : (t : Told) (g : List ℕ) (act : GzzAct) → IsGzzTested t g act → gzz_tested t g act ≡ Ok tt
gzz_pass t g act k =
    demand_passes _ _ _ k.range (demand_passes _ _ _ (not_from_false _ k.known) (demand_passes _ _ _ (not_from_false _ k.new) (demand_passes _ _ _ (not_from_false _ k.apart) (demand_passes _ _ _ k.group (last_passes _ _ k.few)))))

-- So is what is done with a window of two layers.
gzz_tests_alone : (above new : List Statement) (g : List ℕ) (act : GzzAct) → AreAlike above new → gzz_tested (told above) g act ≡ Ok tt → gzz_tested (told new) g act ≡ Ok tt
gzz_tests_alone above new g act a h =
    let t = gzz_passed (told above) g act h in
    let fs : List Statement = gzz_lines (told above).pairs g act in
    let more = all_alike fs above new (gzz_of_tasks (told above).pairs g act) a in
    let limits : Limits = limits_of (told above).version in
    let P : Told → Type 0 = λ u. are_few limits u ≡ true in
    let few : are_few limits (told (added fs new)) ≡ true = few_alike limits (added fs above) (added fs new) more (subst P (sym (told_added fs above)) t.few) in
    let all : are_few limits (told_all (stands_for (told new) (GzzLine g act)) (told new)) ≡ true = ap (λ (gs : List Statement). are_few limits (told_all gs (told new))) (same_gzz above new g act a) ∙ subst P (told_added fs new) few in
    gzz_pass (told new) g act (record {
      range = ap₂ (λ (w h : ℕ). is_gzz_in_range w h act) a.width a.height ∙ t.range;
      known = ap (λ (pairs : List NamedPair). lacks_pair pairs g act) a.pairs ∙ t.known;
      new = not_names_again above new g act a t.new;
      apart = ap (λ (pairs : List NamedPair). comes_between pairs act) a.pairs ∙ t.apart;
      group = ap (λ (o : Option OpenGroup). is_none o) a.group ∙ t.group;
      few = ap (λ version. are_few (limits_of version) (told_all (stands_for (told new) (GzzLine g act)) (told new))) a.version ∙ all;
    })

pub gzz_alone : (s : Setting) (above new : List Statement) (line g : List ℕ) (act : GzzAct) → ((told above).rows_due == 0) ≡ true → (told above).section ≡ CallsAreDue → AreAlike above new → line_read s (told above) line ≡ Ok (GzzLine g act) → line_read (alone s) (told new) line ≡ Ok (GzzLine g act)
gzz_alone s above new line g act e c a read =
    let r = line_reading s above line (GzzLine g act) read in
    let P : ℕ → Type 0 = λ n. (n == 0) ≡ true in
    let due : ((told new).rows_due == 0) ≡ true = subst P (sym a.due) refl in
    let here : (told new).section ≡ CallsAreDue = a.section ∙ ap section_alone c in
    let again : (ws : List (List ℕ)) → line_made s.form (told above).version (told above).section (told above).rows_due (told above).row_width ws ≡ Ok (GzzLine g act) → line_made (alone s).form (told new).version (told new).section (told new).rows_due (told new).row_width ws ≡ Ok (GzzLine g act) =
    λ ws k. in_task (alone s) new ws due here ∙ (ap (λ version. verb_read (alone s).form version CallsAreDue ws) a.version ∙ (any_form (alone s).form s.form (told above).version ws ∙ (sym (in_task s above ws e c) ∙ k))) in
    read_again s (alone s) above new line (GzzLine g act) again (gzz_tests_alone above new g act a r.tested) read
