-- The lines of a script's tasks, over any base of it, are the tasks of a script alone.
use Rattle.std.proofs.Common.{◌≡◌, ℕ, ◌+◌, ◌==◌, Bool, true, false, ◌||◌, cond, List, [], ◌∷◌, ◌++◌, map, filter, reverse, Ok, refl, sym, ap, ap₂, subst, ◌∙◌, arith}
use Rattle.std.specs.List.{list_all, flat_map, range_with_len}
use Rattle.lw_planes.proofs.GridLaws.{map_range_same}
use Rattle.lw_grammar.specs.declared.form.Form.TheVariants.{Plain}
use Rattle.lw_grammar.specs.Statements.{Statement, LayersLine, ScreenLine, GlyphLine, BitmapLine, RowLine, PatternLine, TaskLine, EndLine, OrderLine, NumbersLine, ReportLine, CallLine, LockLine, UnlockLine, HoldLine, ReleaseLine, NameWithoutSlot, PairMade, GzzAct, OpenGzz, BoxGzz, FrontGzz, BehindGzz, InFrontGzz, CloseGzz, Line, StatementLine, AreaLine, GzzLine}
use Rattle.lw_grammar.specs.Told.{Section, ScreenIsDue, AssetsAreDue, CallsAreDue, TasksAreDue, NumbersAreDue, NothingIsDue, told, plan_of, NamedPair, gzz_lines, pair_among}
use Rattle.lw_grammar.specs.Script.{Setting, are_assets_due, are_calls_due, are_tasks_due, is_nothing_due, may_end, line_read, added}
use Rattle.lw_grammar.specs.GoodLines.{AreGoodLines}
use Rattle.lw_canonical.specs.Spelling.{spelled, written}
use Rattle.lw_canonical.specs.Canonical.{lines_of_glyph}
use Rattle.lw_grammar.proofs.ScriptOutcome.{rows_in_assets, line_good}
use Rattle.lw_grammar.proofs.AreaLines.{without_last}
use Rattle.lw_grammar.proofs.ScriptSizes.{here, tests, has_begun, has_screen, in_assets, in_assets_or_tasks, version_first, MayEnd, whole_ends, in_calls}
use Rattle.lw_canonical.proofs.Rearranged.{is_of_tasks, is_of_bitmaps, is_task_line, as_lines, stated, glyphs_in_order, screen_line_of, screen_of, base_of, alone, is_passed, AreSpelled, IsWritten, IsLineWritten, AreLinesWritten, AreLinesSpelled, IsBaseOf}
use Rattle.lw_canonical.proofs.ReadsAgain.{isnt_passed}
use Rattle.lw_canonical.proofs.NotionsAlike.{bare, section_alone, AreAlike, base_below, calls_screen, numbers_screen, order_screen, report_screen, alike, is_behind}
use Rattle.lw_canonical.proofs.TaskLineAlone.{task_not_skipped, is_inner, inner, read_alone, read_has_line, gzz_not_skipped, gzz_alone}
use Rattle.std.proofs.lemmas.Bool.{true≢false, false≢true, and_parts, and_from}
use Rattle.std.proofs.lemmas.List.Folds.{list_all-append}
use Rattle.std.proofs.lemmas.Grind.{reverse_onto}

-- statements as lines stand for themselves
pub stated_same : (fs : List Statement) → stated (as_lines fs) ≡ fs
stated_same [] = refl
stated_same (f ∷ fs) = ap (λ gs. f ∷ gs) (stated_same fs)

-- and are spelled as lines
lines_spelled : (t : Setting) (fs : List Statement) → AreSpelled t fs → AreLinesSpelled t (as_lines fs)
lines_spelled t [] k = tt
lines_spelled t (f ∷ fs) k =
    let P : List Statement → Type 0 = λ above. line_read t (told above) (spelled f) ≡ Ok (StatementLine f) in
    let Q : List Statement → Type 0 = λ above. is_passed above (spelled f) ≡ false in
    (subst P (sym (stated_same fs)) k.0, subst Q (sym (stated_same fs)) k.1, lines_spelled t fs k.2)

-- the windows of two layers that the lines of tasks tell over a base that tells none
pairs_over : (above base : List Statement) → (told base).pairs ≡ [] → (told (filter is_of_tasks above ++ base)).pairs ≡ (told above).pairs
pairs_over [] base h = h
pairs_over (f ∷ above) base h = step f (pairs_over above base h)
  where
    step : (f : Statement) → (told (filter is_of_tasks above ++ base)).pairs ≡ (told above).pairs → (told (filter is_of_tasks (f ∷ above) ++ base)).pairs ≡ (told (f ∷ above)).pairs
    step (PairMade outer inner) k = ap (λ (pairs : List NamedPair). pairs ++ record { outer = outer; inner = inner } ∷ []) k
    step f k = k

-- all statements of what is done with one are lines of tasks
gzz_filtered : (pairs : List NamedPair) (g : List ℕ) (act : GzzAct) (above base : List Statement) → added (gzz_lines pairs g act) (filter is_of_tasks above ++ base) ≡ filter is_of_tasks (added (gzz_lines pairs g act) above) ++ base
gzz_filtered pairs g (OpenGzz inner kind place r classes title) above base = refl
gzz_filtered pairs g (BoxGzz r) above base = refl
gzz_filtered pairs g FrontGzz above base = refl
gzz_filtered pairs g BehindGzz above base = refl
gzz_filtered pairs g (InFrontGzz m) above base = refl
gzz_filtered pairs g CloseGzz above base = refl

-- The lines of tasks over a base stand for the statements of tasks over it.
pub tasks_stated : (s : Setting) (ls : List Line) (base : List Statement) → AreLinesWritten s ls → (told base).pairs ≡ [] → stated (filter is_task_line ls ++ as_lines base) ≡ filter is_of_tasks (stated ls) ++ base
tasks_stated s [] base w h = stated_same base
tasks_stated s (StatementLine f ∷ ls) base w h = step (is_of_tasks f) (tasks_stated s ls base w.1 h)
  where
    step : (t : Bool) → stated (filter is_task_line ls ++ as_lines base) ≡ filter is_of_tasks (stated ls) ++ base → stated (cond t (StatementLine f ∷ filter is_task_line ls) (filter is_task_line ls) ++ as_lines base) ≡ cond t (f ∷ filter is_of_tasks (stated ls)) (filter is_of_tasks (stated ls)) ++ base
    step true k = ap (λ gs. f ∷ gs) k
    step false k = k
tasks_stated s (AreaLine layer pattern points ∷ ls) base w h = absurd w.0
tasks_stated s (GzzLine g act ∷ ls) base w h =
    let F : List NamedPair → List Statement → List Statement = λ pairs above. added (gzz_lines pairs g act) above in
    let below = tasks_stated s ls base w.1 h in
    let pairs = pairs_over (stated ls) base h in
    ap (λ (a : List Statement). F (told a).pairs a) below ∙ (ap (λ (ps : List NamedPair). F ps (filter is_of_tasks (stated ls) ++ base)) pairs ∙ gzz_filtered (told (stated ls)).pairs g act (stated ls) base)

-- where no statement is of tasks, no line is
no_task_line : (s : Setting) (ls : List Line) → AreLinesWritten s ls → filter is_of_tasks (stated ls) ≡ [] → filter is_task_line ls ≡ []
no_task_line s [] w h = refl
no_task_line s (StatementLine f ∷ ls) w h = step (is_of_tasks f) (λ e. no_task_line s ls w.1 e) h
  where
    step : (t : Bool) → (filter is_of_tasks (stated ls) ≡ [] → filter is_task_line ls ≡ []) → cond t (f ∷ filter is_of_tasks (stated ls)) (filter is_of_tasks (stated ls)) ≡ [] → cond t (StatementLine f ∷ filter is_task_line ls) (filter is_task_line ls) ≡ []
    step true go e = absurd (cc)
    step false go e = go e
no_task_line s (AreaLine layer pattern points ∷ ls) w h = absurd w.0
no_task_line s (GzzLine g (OpenGzz inner kind place r classes title) ∷ ls) w h = absurd (cc)
no_task_line s (GzzLine g (BoxGzz r) ∷ ls) w h = absurd (cc)
no_task_line s (GzzLine g FrontGzz ∷ ls) w h = absurd (cc)
no_task_line s (GzzLine g BehindGzz ∷ ls) w h = absurd (cc)
no_task_line s (GzzLine g (InFrontGzz m) ∷ ls) w h = absurd (cc)
no_task_line s (GzzLine g CloseGzz ∷ ls) w h = absurd (cc)

-- of the lines of tasks over a base
abbrev over : List Line → List Statement → List Line
over ls base = filter is_task_line ls ++ as_lines base

-- they tell the same as all lines
over_alike : (s : Setting) (ls : List Line) (base : List Statement) → AreLinesWritten s ls → AreGoodLines s (stated ls) → has_screen (told (stated ls)).section ≡ true → IsBaseOf (stated ls) base → AreAlike (stated ls) (stated (over ls base))
over_alike s ls base w g e b = subst (AreAlike (stated ls)) (sym (tasks_stated s ls base w b.pairs)) (alike s (stated ls) base g e b)

-- a good line of tasks is spelled over what stands below it
one_more : (s : Setting) (ls new : List Line) (f : Statement) → AreGoodLines s (f ∷ stated ls) → IsLineWritten s ls (StatementLine f) → IsWritten s (stated ls) f → is_of_tasks f ≡ true → ((told (stated ls)).rows_due == 0) ≡ true → is_inner (told (stated ls)).section ≡ true → AreAlike (stated ls) (stated new) → AreLinesSpelled (alone s) new → AreLinesSpelled (alone s) (StatementLine f ∷ new)
one_more s ls new f g w written o e c a spelled_below =
    let above : List Statement = stated ls in
    let i = inner (told above).section c in
    let section : (told (stated new)).section ≡ (told above).section = a.section ∙ i.same in
    let here_too : is_nothing_due (told (stated new)).section ≡ false = ap is_nothing_due section ∙ i.nothing in
    (read_alone s above (stated new) f (spelled f) o e c a (tests s above f g) w.1 written, isnt_passed (stated new) (spelled f) (task_not_skipped f o (read_has_line s (told above) f written)) here_too, spelled_below)

-- where a line of a task stands, calls are due
calls_inner : (c : Section) → are_calls_due c ≡ true → is_inner c ≡ true
calls_inner ScreenIsDue e = absurd (false≢true e)
calls_inner AssetsAreDue e = refl
calls_inner CallsAreDue e = refl
calls_inner TasksAreDue e = absurd (false≢true e)
calls_inner NumbersAreDue e = absurd (false≢true e)
calls_inner NothingIsDue e = absurd (false≢true e)

-- so is a task's first line where assets or a further task are due
task_inner : (c : Section) → (are_assets_due c || are_tasks_due c) ≡ true → is_inner c ≡ true
task_inner ScreenIsDue e = absurd (false≢true e)
task_inner AssetsAreDue e = refl
task_inner CallsAreDue e = absurd (false≢true e)
task_inner TasksAreDue e = refl
task_inner NumbersAreDue e = absurd (false≢true e)
task_inner NothingIsDue e = absurd (false≢true e)

-- before the first task nothing but the base is spelled
assets_over : (s : Setting) (ls : List Line) (base : List Statement) → AreLinesWritten s ls → AreGoodLines s (stated ls) → (told (stated ls)).section ≡ AssetsAreDue → AreSpelled (alone s) base → AreLinesSpelled (alone s) (over ls base)
assets_over s ls base w g c k =
    let none = no_task_line s ls w (bare s (stated ls) g (ap has_begun c)).of_tasks in
    subst (λ (gs : List Line). AreLinesSpelled (alone s) (gs ++ as_lines base)) (sym none) (lines_spelled (alone s) base k)

-- what is done with a window of two layers is spelled too
gzz_more : (s : Setting) (ls new : List Line) (g : List ℕ) (act : GzzAct) → IsLineWritten s ls (GzzLine g act) → ((told (stated ls)).rows_due == 0) ≡ true → (told (stated ls)).section ≡ CallsAreDue → AreAlike (stated ls) (stated new) → AreLinesSpelled (alone s) new → AreLinesSpelled (alone s) (GzzLine g act ∷ new)
gzz_more s ls new g act w e c a spelled_below =
    let here_too : is_nothing_due (told (stated new)).section ≡ false = ap is_nothing_due (a.section ∙ ap section_alone c) in
    (gzz_alone s (stated ls) (stated new) (written (GzzLine g act)) g act e c a w, isnt_passed (stated new) (written (GzzLine g act)) (gzz_not_skipped g act) here_too, spelled_below)

-- a base of lines is one of those below statements that stand in tasks
base_under : (fs above base : List Statement) → list_all is_behind fs ≡ true → IsBaseOf (added fs above) base → IsBaseOf above base
base_under [] above base h b = b
base_under (f ∷ fs) above base h b =
    let k = and_parts (is_behind f) (list_all is_behind fs) h in
    base_below f above base k.0 (base_under fs (f ∷ above) base k.1 b)

gzz_behind : (pairs : List NamedPair) (g : List ℕ) (act : GzzAct) → list_all is_behind (gzz_lines pairs g act) ≡ true
gzz_behind pairs g (OpenGzz inner kind place r classes title) = refl
gzz_behind pairs g (BoxGzz r) = refl
gzz_behind pairs g FrontGzz = refl
gzz_behind pairs g BehindGzz = refl
gzz_behind pairs g (InFrontGzz m) = refl
gzz_behind pairs g CloseGzz = refl

-- The lines of tasks are spelled over a spelled base.
tasks_over : (s : Setting) (ls : List Line) (base : List Statement) → AreGoodLines s (stated ls) → AreLinesWritten s ls → has_screen (told (stated ls)).section ≡ true → IsBaseOf (stated ls) base → AreSpelled (alone s) base → AreLinesSpelled (alone s) (over ls base)
tasks_over s [] base g w e b k = absurd (false≢true e)
tasks_over s (AreaLine layer pattern points ∷ ls) base g w e b k = absurd w.0
tasks_over s (GzzLine name act ∷ ls) base g w e b k =
    let below = without_last s (gzz_lines (told (stated ls)).pairs name act) (stated ls) g in
    let r = line_good s (stated ls) (written (GzzLine name act)) (GzzLine name act) w.0 in
    let screen = calls_screen (told (stated ls)).section r.0.calls in
    let under = base_under (gzz_lines (told (stated ls)).pairs name act) (stated ls) base (gzz_behind (told (stated ls)).pairs name act) b in
    gzz_more s ls (over ls base) name act w.0 r.0.rows (in_calls (told (stated ls)).section r.0.calls) (over_alike s ls base w.1 below screen under) (tasks_over s ls base below w.1 screen under k)
tasks_over s (StatementLine LayersLine ∷ ls) base g w e b k = absurd (true≢false (sym e ∙ ap has_screen (version_first s (stated ls) g)))
tasks_over s (StatementLine (ScreenLine x y z) ∷ ls) base g w e b k = assets_over s (StatementLine (ScreenLine x y z) ∷ ls) base w g refl k
tasks_over s (StatementLine (GlyphLine code rows) ∷ ls) base g w e b k =
    assets_over s (StatementLine (GlyphLine code rows) ∷ ls) base w g (in_assets (told (stated ls)).section (here s (stated ls) (GlyphLine code rows) g).1) k
tasks_over s (StatementLine (BitmapLine name x y z) ∷ ls) base g w e b k =
    assets_over s (StatementLine (BitmapLine name x y z) ∷ ls) base w g (in_assets (told (stated ls)).section (here s (stated ls) (BitmapLine name x y z) g).1) k
tasks_over s (StatementLine (PatternLine name words) ∷ ls) base g w e b k =
    assets_over s (StatementLine (PatternLine name words) ∷ ls) base w g (in_assets (told (stated ls)).section (here s (stated ls) (PatternLine name words) g).1) k
tasks_over s (StatementLine (RowLine bytes) ∷ ls) base g w e b k =
    assets_over s (StatementLine (RowLine bytes) ∷ ls) base w g (in_assets (told (stated ls)).section (rows_in_assets s (stated ls) g.1 (here s (stated ls) (RowLine bytes) g).0)) k
tasks_over s (StatementLine (TaskLine name) ∷ ls) base g w e b k =
    let h = here s (stated ls) (TaskLine name) g in
    let screen = in_assets_or_tasks (told (stated ls)).section h.1 in
    let below = base_below (TaskLine name) (stated ls) base refl b in
    one_more s ls (over ls base) (TaskLine name) g w.0 w.0.0 refl h.0 (task_inner (told (stated ls)).section h.1) (over_alike s ls base w.1 g.1 screen below) (tasks_over s ls base g.1 w.1 screen below k)
tasks_over s (StatementLine OrderLine ∷ ls) base g w e b k =
    tasks_over s ls base g.1 w.1 (order_screen s (stated ls) g) (base_below OrderLine (stated ls) base refl b) k
tasks_over s (StatementLine (NumbersLine zs) ∷ ls) base g w e b k =
    tasks_over s ls base g.1 w.1 (numbers_screen (told (stated ls)).section (here s (stated ls) (NumbersLine zs) g).1) (base_below (NumbersLine zs) (stated ls) base refl b) k
tasks_over s (StatementLine ReportLine ∷ ls) base g w e b k =
    tasks_over s ls base g.1 w.1 (report_screen s (stated ls) g) (base_below ReportLine (stated ls) base refl b) k
tasks_over s (StatementLine (NameWithoutSlot name) ∷ ls) base g w e b k =
    tasks_over s ls base g.1 w.1 (calls_screen (told (stated ls)).section (here s (stated ls) (NameWithoutSlot name) g).1) (base_below (NameWithoutSlot name) (stated ls) base refl b) k
tasks_over s (StatementLine EndLine ∷ ls) base g w e b k =
    let h = here s (stated ls) EndLine g in
    let screen = calls_screen (told (stated ls)).section h.1 in
    let below = base_below EndLine (stated ls) base refl b in
    one_more s ls (over ls base) EndLine g w.0 w.0.0 refl h.0 (calls_inner (told (stated ls)).section h.1) (over_alike s ls base w.1 g.1 screen below) (tasks_over s ls base g.1 w.1 screen below k)
tasks_over s (StatementLine (CallLine layers act) ∷ ls) base g w e b k =
    let h = here s (stated ls) (CallLine layers act) g in
    let screen = calls_screen (told (stated ls)).section h.1 in
    let below = base_below (CallLine layers act) (stated ls) base refl b in
    one_more s ls (over ls base) (CallLine layers act) g w.0 w.0.0 refl h.0 (calls_inner (told (stated ls)).section h.1) (over_alike s ls base w.1 g.1 screen below) (tasks_over s ls base g.1 w.1 screen below k)
tasks_over s (StatementLine (LockLine name) ∷ ls) base g w e b k =
    let h = here s (stated ls) (LockLine name) g in
    let screen = calls_screen (told (stated ls)).section h.1 in
    let below = base_below (LockLine name) (stated ls) base refl b in
    one_more s ls (over ls base) (LockLine name) g w.0 w.0.0 refl h.0 (calls_inner (told (stated ls)).section h.1) (over_alike s ls base w.1 g.1 screen below) (tasks_over s ls base g.1 w.1 screen below k)
tasks_over s (StatementLine (UnlockLine name) ∷ ls) base g w e b k =
    let h = here s (stated ls) (UnlockLine name) g in
    let screen = calls_screen (told (stated ls)).section h.1 in
    let below = base_below (UnlockLine name) (stated ls) base refl b in
    one_more s ls (over ls base) (UnlockLine name) g w.0 w.0.0 refl h.0 (calls_inner (told (stated ls)).section h.1) (over_alike s ls base w.1 g.1 screen below) (tasks_over s ls base g.1 w.1 screen below k)
tasks_over s (StatementLine HoldLine ∷ ls) base g w e b k =
    let h = here s (stated ls) HoldLine g in
    let screen = calls_screen (told (stated ls)).section h.1 in
    let below = base_below HoldLine (stated ls) base refl b in
    one_more s ls (over ls base) HoldLine g w.0 w.0.0 refl h.0 (calls_inner (told (stated ls)).section h.1) (over_alike s ls base w.1 g.1 screen below) (tasks_over s ls base g.1 w.1 screen below k)
tasks_over s (StatementLine ReleaseLine ∷ ls) base g w e b k =
    let h = here s (stated ls) ReleaseLine g in
    let screen = calls_screen (told (stated ls)).section h.1 in
    let below = base_below ReleaseLine (stated ls) base refl b in
    one_more s ls (over ls base) ReleaseLine g w.0 w.0.0 refl h.0 (calls_inner (told (stated ls)).section h.1) (over_alike s ls base w.1 g.1 screen below) (tasks_over s ls base g.1 w.1 screen below k)
tasks_over s (StatementLine (PairMade outer inner) ∷ ls) base g w e b k =
    let h = here s (stated ls) (PairMade outer inner) g in
    let screen = calls_screen (told (stated ls)).section h.1 in
    let below = base_below (PairMade outer inner) (stated ls) base refl b in
    one_more s ls (over ls base) (PairMade outer inner) g w.0 w.0.0 refl h.0 (calls_inner (told (stated ls)).section h.1) (over_alike s ls base w.1 g.1 screen below) (tasks_over s ls base g.1 w.1 screen below k)

-- The lines of a whole script's tasks are spelled over each spelled base of it.
pub tasks_spelled : (s : Setting) (ls : List Line) (base : List Statement) → AreGoodLines s (stated ls) → AreLinesWritten s ls → may_end s.form (told (stated ls)).section ≡ true → IsBaseOf (stated ls) base → AreSpelled (alone s) base → AreLinesSpelled (alone s) (over ls base)
tasks_spelled s ls base g w whole b k = tasks_over s ls base g w (whole_ends s.form (stated ls) whole).screen b k

-- the glyphs of lines that tell the same
same_glyphs : (above new : List Statement) → AreAlike above new → map (λ i. (told new).glyphs (32 + i)) (range_with_len 0 95) ≡ map (λ i. (told above).glyphs (32 + i)) (range_with_len 0 95)
same_glyphs above new a =
    map_range_same 95 (λ i. (told new).glyphs (32 + i)) (λ i. (told above).glyphs (32 + i)) (λ i low. a.glyphs (32 + i) (omega arith) (omega (arith, low)))

-- lines that tell the same have the same plan
same_plan : (hooks : ℕ) (above new : List Statement) → AreAlike above new → plan_of hooks (told new) ≡ plan_of hooks (told above)
same_plan hooks above new a =
    let version = a.version in
    let width = a.width in
    let height = a.height in
    let depth = a.depth in
    let bitmap_names = a.bitmap_names in
    let bitmaps = a.bitmaps in
    let tasks = a.tasks in
    let names = a.names in
    let pairs = ap₂ (λ (ns : List (List ℕ)) (ps : List NamedPair). map (pair_among ns) ps) a.names a.pairs in
    let calls = a.calls in
    let groups = a.groups in
    let glyphs = same_glyphs above new a in
    cc

-- The lines of a whole script's tasks over a base of it have its plan.
pub tasks_plan : (s : Setting) (above base : List Statement) → AreGoodLines s above → may_end s.form (told above).section ≡ true → IsBaseOf above base → plan_of s.hooks (told (filter is_of_tasks above ++ base)) ≡ plan_of s.hooks (told above)
tasks_plan s above base g whole b = same_plan s.hooks above (filter is_of_tasks above ++ base) (alike s above base g (whole_ends s.form above whole).screen b)

-- where a script may end, a script alone may end
ends_alone : (c : Section) → MayEnd c → are_tasks_due (section_alone c) ≡ true
ends_alone ScreenIsDue h = absurd (false≢true h.begun)
ends_alone AssetsAreDue h = absurd (false≢true h.begun)
ends_alone CallsAreDue h = absurd (true≢false h.calls)
ends_alone TasksAreDue h = refl
ends_alone NumbersAreDue h = refl
ends_alone NothingIsDue h = refl

-- They are a whole script alone.
pub tasks_whole : (s : Setting) (above base : List Statement) → AreGoodLines s above → may_end s.form (told above).section ≡ true → IsBaseOf above base → may_end Plain (told (filter is_of_tasks above ++ base)).section ≡ true
tasks_whole s above base g whole b =
    let ends = whole_ends s.form above whole in
    ap are_tasks_due (alike s above base g ends.screen b).section ∙ ends_alone (told above).section ends

-- lines of tasks have no numbers of an order
order_over : (above base : List Statement) → (told base).order ≡ [] → (told (filter is_of_tasks above ++ base)).order ≡ []
order_over [] base h = h
order_over (f ∷ above) base h = step f (order_over above base h)
  where
    step : (f : Statement) → (told (filter is_of_tasks above ++ base)).order ≡ [] → (told (filter is_of_tasks (f ∷ above) ++ base)).order ≡ []
    step (NumbersLine zs) k = k
    step f k = k

-- They have no order, if the base has none.
pub tasks_order : (s : Setting) (above base : List Statement) → AreGoodLines s above → may_end s.form (told above).section ≡ true → IsBaseOf above base → (told base).order ≡ [] → (told (filter is_of_tasks above ++ base)).order ≡ []
tasks_order s above base g whole b h = order_over above base h

-- a line that has no numbers of an order
abbrev has_no_numbers : Statement → Bool
has_no_numbers (NumbersLine zs) = false
has_no_numbers f = true

-- of such lines there is no order
order_none : (fs : List Statement) → list_all has_no_numbers fs ≡ true → (told fs).order ≡ []
order_none [] h = refl
order_none (f ∷ fs) h = step f h (order_none fs)
  where
    step : (f : Statement) → list_all has_no_numbers (f ∷ fs) ≡ true → (list_all has_no_numbers fs ≡ true → (told fs).order ≡ []) → (told (f ∷ fs)).order ≡ []
    step (NumbersLine zs) k go = absurd (false≢true k)
    step f k go = go k

-- such lines end to end, backwards, and picked
both_none : (fs gs : List Statement) → list_all has_no_numbers fs ≡ true → list_all has_no_numbers gs ≡ true → list_all has_no_numbers (fs ++ gs) ≡ true
both_none fs gs h k = list_all-append has_no_numbers fs gs ∙ and_from (list_all has_no_numbers fs) (list_all has_no_numbers gs) h k

reverse_none : (fs : List Statement) → list_all has_no_numbers fs ≡ true → list_all has_no_numbers (reverse fs) ≡ true
reverse_none [] h = refl
reverse_none (f ∷ fs) h =
    let halves = and_parts (has_no_numbers f) (list_all has_no_numbers fs) h in
    ap (list_all has_no_numbers) (reverse_onto fs f []) ∙ both_none (reverse fs) (f ∷ []) (reverse_none fs halves.1) (and_from (has_no_numbers f) true halves.0 refl)

bitmaps_none : (above : List Statement) → list_all has_no_numbers (filter is_of_bitmaps above) ≡ true
bitmaps_none [] = refl
bitmaps_none (f ∷ above) = step f (bitmaps_none above)
  where
    step : (f : Statement) → list_all has_no_numbers (filter is_of_bitmaps above) ≡ true → list_all has_no_numbers (filter is_of_bitmaps (f ∷ above)) ≡ true
    step (BitmapLine name w h d) k = k
    step (RowLine bytes) k = k
    step f k = k

-- glyphs are such lines
glyph_none : (code : ℕ) (rows : List ℕ) → list_all has_no_numbers (lines_of_glyph code rows) ≡ true
glyph_none code rows = step (list_all (λ row. row == 0) rows)
  where
    step : (t : Bool) → list_all has_no_numbers (cond t [] (GlyphLine code rows ∷ [])) ≡ true
    step true = refl
    step false = refl

glyphs_none : (above : List Statement) (ns : List ℕ) → list_all has_no_numbers (flat_map (λ i. lines_of_glyph (32 + i) ((told above).glyphs (32 + i))) ns) ≡ true
glyphs_none above [] = refl
glyphs_none above (i ∷ ns) = both_none (lines_of_glyph (32 + i) ((told above).glyphs (32 + i))) _ (glyph_none (32 + i) ((told above).glyphs (32 + i))) (glyphs_none above ns)

-- so are the lines of screen and version
screen_none : (above : List Statement) → list_all has_no_numbers (screen_of above) ≡ true
screen_none above = step ((told above).version == 2)
  where
    step : (t : Bool) → list_all has_no_numbers (screen_line_of above ∷ cond t (LayersLine ∷ []) []) ≡ true
    step true = refl
    step false = refl

-- Below the tasks no order stands.
pub base_order : (above : List Statement) → (told (base_of above)).order ≡ []
base_order above =
    order_none (base_of above) (both_none (filter is_of_bitmaps above) _ (bitmaps_none above) (both_none (reverse (glyphs_in_order above)) (screen_of above) (reverse_none (glyphs_in_order above) (glyphs_none above (range_with_len 0 95))) (screen_none above)))
