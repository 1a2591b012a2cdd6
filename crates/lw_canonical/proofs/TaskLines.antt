-- Good lines of tasks come back, in their order, from the calls and groups that they spell.
use Rattle.std.proofs.Common.{◌≡◌, ℕ, zero, suc, ◌+◌, ◌-◌, ◌<◌, ◌≤◌, Bool, true, false, cond, ◌||◌, List, [], ◌∷◌, ◌++◌, length, map, take, drop, filter, reverse, slice_index_or, Option, Some, None, refl, sym, ap, ap₂, subst, ◌∙◌, arith, append-nil, append_assoc, length-append, length-drop}
use Rattle.std.specs.List.{list_all}
use Rattle.lw_calls.specs.declared.pair.Pair.{Pair}
use Rattle.lw_calls.specs.declared.sizes.Sizes.{Sizes}
use Rattle.lw_calls.specs.declared.call.Call.{Call}
use Rattle.lw_calls.specs.declared.group.Hold.TheVariants.{Slot, All as AllLayers}
use Rattle.lw_calls.specs.declared.group.Group.{Group}
use Rattle.lw_calls.specs.Plan.{Plan}
use Rattle.lw_grammar.specs.declared.verb.BareVerb.TheVariants.{Refresh as RefreshVerb}
use Rattle.lw_grammar.specs.Statements.{Act, BareAct, NumberAct, PairAct, TextAct, PutAct, EndRefreshAct, Statement, LayersLine, ScreenLine, GlyphLine, BitmapLine, RowLine, PatternLine, TaskLine, EndLine, OrderLine, NumbersLine, ReportLine, CallLine, LockLine, UnlockLine, HoldLine, ReleaseLine, NameWithoutSlot, PairMade, GzzAct, Line, StatementLine, AreaLine, GzzLine, layers_of}
use Rattle.lw_grammar.specs.Told.{Section, ScreenIsDue, AssetsAreDue, CallsAreDue, TasksAreDue, NumbersAreDue, NothingIsDue, OpenGroup, Locked, Updating, Held, NamedPair, and_names, place_among, onto_last, call_below, group_from, inner_by, gzz_lines, told, plan_of, pair_among}
use Rattle.lw_grammar.specs.Script.{Setting, is_screen_due, are_assets_due, are_calls_due, are_tasks_due, are_numbers_due, lacks_name, parts_pair, is_beginning, is_ending, is_lock_on, is_hold}
use Rattle.lw_grammar.specs.GoodLines.{AreGoodLines}
use Rattle.lw_canonical.specs.Spelling.{written}
use Rattle.lw_canonical.specs.Canonical.{line_of_call, are_updating, is_update, word_among, word_for, opening_lines, closing_lines}
use Rattle.lw_grammar.proofs.ScriptNames.{AreNamed, all_named}
use Rattle.lw_grammar.proofs.ScriptGroups.{number_plain, pair_plain, text_plain, all_pushed, drop_pushed}
use Rattle.lw_grammar.proofs.ScriptOutcome.{rows_in_assets, line_good}
use Rattle.lw_grammar.proofs.ScriptSizes.{here, tests, in_calls, in_tasks, version_first}
use Rattle.lw_grammar.proofs.ScriptTasks.{View, view_of, OpenState, HaveBegun, IsNow, AreTasks, tasks_fit, calls_listed, groups_listed, none_open, plain_groups, opens_none, ends_same, unlocks_same, releases_held, onto_pushed}
use Rattle.lw_grammar.proofs.AreaLines.{without_last}
use Rattle.lw_grammar.proofs.GzzLines.{gzz_passed}
use Rattle.lw_canonical.proofs.Rearranged.{is_task_line, stated, AreLinesWritten}
use Rattle.lw_canonical.proofs.TaskLineAlone.{read_has_line}
use Rattle.lw_canonical.proofs.CallLinesBack.{IsBitmapBack, line_back}
use Rattle.lw_canonical.proofs.FreeCalls.{is_free_call, no_word_among, AreFoundPairs, call_is_free}
use Rattle.lw_canonical.proofs.FreeLines.{AreFree}
use Rattle.lw_canonical.proofs.GzzWords.{IsIn}
use Rattle.lw_canonical.proofs.PairsFound.{IsFoundIn, stored_below, stored_under, IsPlacedIn, placed_found, placed_below, placed_under, IsOneOf, AreAmong, pairs_below, pairs_under, pair_found, found_pair, slots_among}
use Rattle.lw_canonical.proofs.GroupLines.{AreInside, groups_inside, open_group_before, closed_lines, lines_so_far, locked_begin_none, update_begins, none_before, group_begun, group_ended, lines_closed, call_line, update_line}
use Rattle.lw_canonical.proofs.GzzTold.{done_calls, done_group, gzz_told, gzz_lined}
use Rattle.std.proofs.lemmas.Bool.{true≢false, false≢true, not-false, ne_eqb, ltb-true, and_parts}
use Rattle.std.proofs.lemmas.List.{length-map, reverse-append, drop_all}

-- the layers of a line come back by their slots
layers_back : (all names ns : List (List ℕ)) → IsFoundIn all names → AreNamed names ns → map (λ s. slice_index_or all s []) (map (place_among names) ns) ≡ ns
layers_back all names [] h k = refl
layers_back all names (n ∷ ns) h k = ap₂ (λ (x : List ℕ) (y : List (List ℕ)). x ∷ y) (h n k.0) (layers_back all names ns h k.1)

-- the bitmap that a line names comes back
bitmap_back : (all among : List (List ℕ)) (layers : List (List ℕ)) (act : Act) → IsFoundIn all among → lacks_name among (CallLine layers act) ≡ false → IsBitmapBack all among act
bitmap_back all among layers (PutAct bm b) h e = h bm (not-false _ e)
bitmap_back all among layers act h e = tt

-- where no calls are due
no_calls_in_screen : (c : Section) → is_screen_due c ≡ true → are_calls_due c ≡ false
no_calls_in_screen ScreenIsDue e = refl
no_calls_in_screen AssetsAreDue e = refl
no_calls_in_screen CallsAreDue e = absurd (false≢true e)
no_calls_in_screen TasksAreDue e = refl
no_calls_in_screen NumbersAreDue e = refl
no_calls_in_screen NothingIsDue e = refl

no_calls_in_assets : (c : Section) → are_assets_due c ≡ true → are_calls_due c ≡ false
no_calls_in_assets ScreenIsDue e = refl
no_calls_in_assets AssetsAreDue e = refl
no_calls_in_assets CallsAreDue e = absurd (false≢true e)
no_calls_in_assets TasksAreDue e = refl
no_calls_in_assets NumbersAreDue e = refl
no_calls_in_assets NothingIsDue e = refl

no_calls_in_numbers : (c : Section) → are_numbers_due c ≡ true → are_calls_due c ≡ false
no_calls_in_numbers ScreenIsDue e = refl
no_calls_in_numbers AssetsAreDue e = refl
no_calls_in_numbers CallsAreDue e = absurd (false≢true e)
no_calls_in_numbers TasksAreDue e = refl
no_calls_in_numbers NumbersAreDue e = refl
no_calls_in_numbers NothingIsDue e = refl

no_calls_at_task : (c : Section) → (are_assets_due c || are_tasks_due c) ≡ true → are_calls_due c ≡ false
no_calls_at_task ScreenIsDue e = refl
no_calls_at_task AssetsAreDue e = refl
no_calls_at_task CallsAreDue e = absurd (false≢true e)
no_calls_at_task TasksAreDue e = refl
no_calls_at_task NumbersAreDue e = refl
no_calls_at_task NothingIsDue e = refl

-- the last one of a list of lists
abbrev last_of : {A : Type 0} → List (List A) → List A
last_of [] = []
last_of (x ∷ []) = x
last_of (x ∷ y ∷ ys) = last_of (y ∷ ys)

last_pushed : {A : Type 0} (xs : List (List A)) (x : List A) → last_of (xs ++ x ∷ []) ≡ x
last_pushed [] x = refl
last_pushed (y ∷ []) x = refl
last_pushed (y ∷ z ∷ zs) x = last_pushed (z ∷ zs) x

last_same : {A : Type 0} (all xs ys : List (List A)) (x y : List A) → all ≡ xs ++ x ∷ [] → all ≡ ys ++ y ∷ [] → x ≡ y
last_same all xs ys x y e f = sym (last_pushed xs x) ∙ ap last_of (sym e ∙ f) ∙ last_pushed ys y

-- what is known of the nearest task: its groups end before its next call
pub record IsTask (v : View) (calls : List Call) (groups : List Group) : Type 0 where
  pub long : length calls ≡ v.calls_in_task
  pub inside : AreInside (length calls) groups
  pub state : OpenState v.group v.calls_in_task v.calls_before_group v.names calls groups

now_task : (z : Sizes) (v : View) (calls : List Call) (groups : List Group) → IsNow z v calls groups → IsTask v calls groups
now_task z v calls groups h = record { long = h.long; inside = groups_inside calls groups h.fits.grouped; state = h.state }

-- the nearest task of good lines, and that no group is open but in a task
nearest_task : (s : Setting) (above : List Statement) → AreGoodLines s above → (told above).section ≡ CallsAreDue → (done : List (List Call)) (done_groups : List (List Group)) (calls : List Call) (groups : List Group) → (told above).calls ≡ done ++ calls ∷ [] → (told above).groups ≡ done_groups ++ groups ∷ [] → IsTask (view_of above) calls groups
nearest_task s above g e done done_groups calls groups a b =
    let z : Sizes = (plan_of s.hooks (told above)).sizes in
    let P : Section → Type 0 = λ c. AreTasks z c (view_of above) in
    let at : AreTasks z CallsAreDue (view_of above) = subst P e (tasks_fit z s above g refl refl (omega arith) (omega arith)) in
    let begun : HaveBegun z (view_of above) = at.tasks in
    let Q : List Call → Type 0 = λ cs. IsTask (view_of above) cs groups in
    let R : List Group → Type 0 = λ gs. IsTask (view_of above) begun.calls gs in
    subst Q (last_same (told above).calls begun.done done begun.calls calls begun.all_are a) (subst R (last_same (told above).groups begun.done_groups done_groups begun.groups groups begun.groups_are b) (now_task z (view_of above) begun.calls begun.groups begun.now))

none_between : (s : Setting) (above : List Statement) → AreGoodLines s above → are_calls_due (told above).section ≡ false → (told above).group ≡ None
none_between s above g e = (tasks_fit (plan_of s.hooks (told above)).sizes s above g refl refl (omega arith) (omega arith)).closed e

-- The lines of tasks of a plan whose windows of two layers are these.
module _ (p : Plan) (pairs : List NamedPair) (mapped : map (pair_among p.slot_names) pairs ≡ p.pairs) (found : AreFoundPairs p.slot_names pairs) where
  -- nothing was opened before a call after the next one
  open_group_behind : (o : Option OpenGroup) (calls_in_task calls_before_group n : ℕ) (names : List (List ℕ)) (calls : List Call) (groups : List Group) → OpenState o calls_in_task calls_before_group names calls groups → calls_in_task < n → open_group_before o calls_before_group n ≡ []
  open_group_behind None calls_in_task calls_before_group n names calls groups h low = none_before p calls_before_group n
  open_group_behind (Some (Locked l)) calls_in_task calls_before_group n names calls groups h low =
      let order : calls_before_group ≤ calls_in_task = h.0.order in ap (λ t. cond t (StatementLine (LockLine l) ∷ []) []) (ne_eqb calls_before_group n (λ e. omega arith))
  open_group_behind (Some (Updating l)) calls_in_task calls_before_group n names calls groups h low = none_before p calls_before_group n
  open_group_behind (Some Held) calls_in_task calls_before_group n names calls groups h low =
      let order : calls_before_group ≤ calls_in_task = h.0.order in ap (λ t. cond t (StatementLine HoldLine ∷ []) []) (ne_eqb calls_before_group n (λ e. omega arith))

  -- what opens an update has no lines
  update_before : (l : List ℕ) (calls_before_group m : ℕ) → open_group_before (Some (Updating l)) calls_before_group m ≡ []
  update_before l calls_before_group m = none_before p calls_before_group m

  -- the calls of an open hold are free of all these windows
  abbrev AreHeldFree : Option OpenGroup → List Call → Type 0
  AreHeldFree (Some Held) calls = list_all (is_free_call p.pairs) calls ≡ true
  AreHeldFree o calls = Unit {0}

  -- so they are with one more
  free_more : (o : Option OpenGroup) (calls_in_task calls_before_group : ℕ) (names : List (List ℕ)) (calls : List Call) (groups : List Group) (c : Call) → OpenState o calls_in_task calls_before_group names calls groups → length calls ≡ calls_in_task → is_free_call p.pairs c ≡ true → AreHeldFree o (drop calls_before_group calls) → AreHeldFree o (drop calls_before_group (calls ++ c ∷ []))
  free_more None calls_in_task calls_before_group names calls groups c h long k f = tt
  free_more (Some (Locked l)) calls_in_task calls_before_group names calls groups c h long k f = tt
  free_more (Some (Updating l)) calls_in_task calls_before_group names calls groups c h long k f = tt
  free_more (Some Held) calls_in_task calls_before_group names calls groups c h long k f =
      let order : calls_before_group ≤ calls_in_task = h.0.order in
      ap (list_all (is_free_call p.pairs)) (drop_pushed calls c calls_before_group (omega (arith, order, long))) ∙ all_pushed (is_free_call p.pairs) (drop calls_before_group calls) c f k

  -- no group of them stands for a word
  no_word : (cs : List Call) (n : ℕ) → 0 < length cs → 0 < n → list_all (is_free_call p.pairs) cs ≡ true → word_among p.pairs (take n cs) ≡ None
  no_word [] n some one h = absurd (omega arith)
  no_word (c ∷ cs) zero some one h = absurd (omega arith)
  no_word (c ∷ cs) (suc n) some one h = no_word_among p.pairs c (take n cs) (and_parts (is_free_call p.pairs c) (list_all (is_free_call p.pairs) cs) h).0

  -- the lines of one task, and of tasks with these names, calls and groups
  abbrev pub task_lines : List ℕ → List Call → List Group → List Line
  task_lines name calls groups = StatementLine (TaskLine name) ∷ closed_lines p calls groups ++ StatementLine EndLine ∷ []

  abbrev pub all_task_lines : List (List ℕ) → List (List Call) → List (List Group) → List Line
  all_task_lines [] css gss = []
  all_task_lines (n ∷ ns) [] gss = []
  all_task_lines (n ∷ ns) (cs ∷ css) [] = []
  all_task_lines (n ∷ ns) (cs ∷ css) (gs ∷ gss) = task_lines n cs gs ++ all_task_lines ns css gss

  -- one task more
  tasks_pushed : (ns : List (List ℕ)) (css : List (List Call)) (gss : List (List Group)) (n : List ℕ) (cs : List Call) (gs : List Group) → length css ≡ length ns → length gss ≡ length ns → all_task_lines (ns ++ n ∷ []) (css ++ cs ∷ []) (gss ++ gs ∷ []) ≡ all_task_lines ns css gss ++ task_lines n cs gs
  tasks_pushed [] [] [] n cs gs h k = append-nil (task_lines n cs gs)
  tasks_pushed [] [] (g ∷ gss) n cs gs h k = absurd (omega arith)
  tasks_pushed [] (c ∷ css) gss n cs gs h k = absurd (omega arith)
  tasks_pushed (m ∷ ns) [] gss n cs gs h k = absurd (omega arith)
  tasks_pushed (m ∷ ns) (c ∷ css) [] n cs gs h k = absurd (omega arith)
  tasks_pushed (m ∷ ns) (c ∷ css) (g ∷ gss) n cs gs h k =
      ap (λ (t : List Line). task_lines m c g ++ t) (tasks_pushed ns css gss n cs gs (omega arith) (omega arith)) ∙ sym (append_assoc (task_lines m c g) (all_task_lines ns css gss) (task_lines n cs gs))

  -- the lines of tasks, the first one first
  abbrev pub told_lines : List Line → List Line
  told_lines ls = reverse (filter is_task_line ls)

  -- Where no task is under way, the lines are those of all tasks; and in a task those of the tasks before it and its own so
  -- far. The calls of a hold that is open are free of all windows of two layers.
  abbrev pub AreClosed : List Line → Type 0
  AreClosed ls = told_lines ls ≡ all_task_lines (told (stated ls)).tasks (told (stated ls)).calls (told (stated ls)).groups

  pub record AreTold (ls : List Line) : Type 0 where
    pub done_names : List (List ℕ)
    pub done : List (List Call)
    pub done_groups : List (List Group)
    pub name : List ℕ
    pub calls : List Call
    pub groups : List Group
    pub names_are : (told (stated ls)).tasks ≡ done_names ++ name ∷ []
    pub all_are : (told (stated ls)).calls ≡ done ++ calls ∷ []
    pub groups_are : (told (stated ls)).groups ≡ done_groups ++ groups ∷ []
    pub written : told_lines ls ≡ all_task_lines done_names done done_groups ++ StatementLine (TaskLine name) ∷ lines_so_far p (told (stated ls)).group (told (stated ls)).calls_before_group calls groups
    pub free : AreHeldFree (told (stated ls)).group (drop (told (stated ls)).calls_before_group calls)

  abbrev pub ToldOrClosed : Bool → List Line → Type 0
  ToldOrClosed true ls = AreTold ls
  ToldOrClosed false ls = AreClosed ls

  -- either of the two, by the test
  told_closed : (b : Bool) (ls : List Line) → b ≡ false → ToldOrClosed b ls → AreClosed ls
  told_closed true ls e h = absurd (true≢false e)
  told_closed false ls e h = h

  closed_told : (b : Bool) (ls : List Line) → b ≡ false → AreClosed ls → ToldOrClosed b ls
  closed_told true ls e h = absurd (true≢false e)
  closed_told false ls e h = h

  -- What is known of lines: they are good and written, their names and bitmaps are found among the plan's, their windows of two
  -- layers are among these, and no line of its own parts one of these.
  pub record AreUnder (s : Setting) (ls : List Line) : Type 0 where
    pub good : AreGoodLines s (stated ls)
    pub written : AreLinesWritten s ls
    pub placed : IsPlacedIn p.slot_names (told (stated ls)).names
    pub stored : IsFoundIn p.bitmap_names (told (stated ls)).bitmap_names
    pub among : AreAmong (told (stated ls)).pairs pairs
    pub free : AreFree pairs ls

  -- so it is of those without the last one
  under_line : (s : Setting) (f : Statement) (ls : List Line) → AreUnder s (StatementLine f ∷ ls) → AreUnder s ls
  under_line s f ls u =
      record {
        good = u.good.1;
        written = u.written.1;
        placed = placed_below p.slot_names f (stated ls) u.placed;
        stored = stored_below p.bitmap_names f (stated ls) u.stored;
        among = pairs_below pairs f (stated ls) u.among;
        free = u.free.1;
      }

  under_gzz : (s : Setting) (g : List ℕ) (act : GzzAct) (ls : List Line) → AreUnder s (GzzLine g act ∷ ls) → AreUnder s ls
  under_gzz s g act ls u =
      let fs : List Statement = gzz_lines (told (stated ls)).pairs g act in
      record {
        good = without_last s fs (stated ls) u.good;
        written = u.written.1;
        placed = placed_under p.slot_names fs (stated ls) u.placed;
        stored = stored_under p.bitmap_names fs (stated ls) u.stored;
        among = pairs_under pairs fs (stated ls) u.among;
        free = u.free;
      }

  -- a task begins
  task_told : (s : Setting) (ls : List Line) (name : List ℕ) → AreGoodLines s (stated ls) → are_calls_due (told (stated ls)).section ≡ false → AreClosed ls → AreTold (StatementLine (TaskLine name) ∷ ls)
  task_told s ls name g e h =
      let above : List Statement = stated ls in
      let P : Option OpenGroup → Type 0 = λ o. told_lines (StatementLine (TaskLine name) ∷ ls) ≡ all_task_lines (told above).tasks (told above).calls (told above).groups ++ StatementLine (TaskLine name) ∷ lines_so_far p o (told above).calls_before_group [] [] in
      let Q : Option OpenGroup → Type 0 = λ o. AreHeldFree o (drop (told above).calls_before_group []) in
      let alone : lines_so_far p None (told above).calls_before_group [] [] ≡ [] = none_before p (told above).calls_before_group 0 in
      let line : told_lines (StatementLine (TaskLine name) ∷ ls) ≡ told_lines ls ++ StatementLine (TaskLine name) ∷ [] = reverse-append (StatementLine (TaskLine name) ∷ []) (filter is_task_line ls) in
      record {
        done_names = (told above).tasks;
        done = (told above).calls;
        done_groups = (told above).groups;
        name = name;
        calls = [];
        groups = [];
        names_are = refl;
        all_are = refl;
        groups_are = refl;
        written = subst P (sym (none_between s above g e)) (line ∙ ap₂ (λ (x y : List Line). x ++ StatementLine (TaskLine name) ∷ y) h (sym alone));
        free = subst Q (sym (none_between s above g e)) tt;
      }

  -- a line inside a task
  line_told : (ls : List Line) (l : Line) (r : AreTold ls) (calls : List Call) (groups : List Group) → (told (stated (l ∷ ls))).tasks ≡ (told (stated ls)).tasks → (told (stated (l ∷ ls))).calls ≡ r.done ++ calls ∷ [] → (told (stated (l ∷ ls))).groups ≡ r.done_groups ++ groups ∷ [] → is_task_line l ≡ true → lines_so_far p (told (stated (l ∷ ls))).group (told (stated (l ∷ ls))).calls_before_group calls groups ≡ lines_so_far p (told (stated ls)).group (told (stated ls)).calls_before_group r.calls r.groups ++ l ∷ [] → AreHeldFree (told (stated (l ∷ ls))).group (drop (told (stated (l ∷ ls))).calls_before_group calls) → AreTold (l ∷ ls)
  line_told ls l r calls groups tasks all grouped e more free =
      let before : List Line = all_task_lines r.done_names r.done r.done_groups in
      let old : List Line = lines_so_far p (told (stated ls)).group (told (stated ls)).calls_before_group r.calls r.groups in
      let here : filter is_task_line (l ∷ ls) ≡ l ∷ filter is_task_line ls = ap (λ t. cond t (l ∷ filter is_task_line ls) (filter is_task_line ls)) e in
      let line : told_lines (l ∷ ls) ≡ told_lines ls ++ l ∷ [] = ap reverse here ∙ reverse-append (l ∷ []) (filter is_task_line ls) in
      record {
        done_names = r.done_names;
        done = r.done;
        done_groups = r.done_groups;
        name = r.name;
        calls = calls;
        groups = groups;
        names_are = tasks ∙ r.names_are;
        all_are = all;
        groups_are = grouped;
        written = line ∙ ap (λ (t : List Line). t ++ l ∷ []) r.written ∙ append_assoc before (StatementLine (TaskLine r.name) ∷ old) (l ∷ []) ∙ ap (λ (t : List Line). before ++ StatementLine (TaskLine r.name) ∷ t) (sym more);
        free = free;
      }

  -- a name that stands alone tells nothing of tasks
  seen_told : (ls : List Line) (name : List ℕ) → AreTold ls → AreTold (StatementLine (NameWithoutSlot name) ∷ ls)
  seen_told ls name r =
      record {
        done_names = r.done_names;
        done = r.done;
        done_groups = r.done_groups;
        name = r.name;
        calls = r.calls;
        groups = r.groups;
        names_are = r.names_are;
        all_are = r.all_are;
        groups_are = r.groups_are;
        written = r.written;
        free = r.free;
      }

  -- a task ends
  end_told : (s : Setting) (ls : List Line) → AreGoodLines s (EndLine ∷ stated ls) → AreTold ls → AreClosed (StatementLine EndLine ∷ ls)
  end_told s ls g r =
      let above : List Statement = stated ls in
      let none : (told above).group ≡ None = none_open (told above).group (tests s above EndLine g).group in
      let before : List Line = all_task_lines r.done_names r.done r.done_groups in
      let own : List Line = closed_lines p r.calls r.groups in
      let closed : lines_so_far p (told above).group (told above).calls_before_group r.calls r.groups ≡ own = ap (λ (o : Option OpenGroup). lines_so_far p o (told above).calls_before_group r.calls r.groups) none ∙ lines_closed p (told above).calls_before_group r.calls r.groups in
      let line : told_lines (StatementLine EndLine ∷ ls) ≡ told_lines ls ++ StatementLine EndLine ∷ [] = reverse-append (StatementLine EndLine ∷ []) (filter is_task_line ls) in
      let lists : length (r.done ++ r.calls ∷ []) ≡ length (r.done_names ++ r.name ∷ []) = ap length (sym r.all_are) ∙ calls_listed above ∙ ap length r.names_are in
      let grouped : length (r.done_groups ++ r.groups ∷ []) ≡ length (r.done_names ++ r.name ∷ []) = ap length (sym r.groups_are) ∙ groups_listed above ∙ ap length r.names_are in
      let names_more = length-append r.done_names (r.name ∷ []) in
      let pushed = tasks_pushed r.done_names r.done r.done_groups r.name r.calls r.groups (omega (arith, lists, names_more, length-append r.done (r.calls ∷ []))) (omega (arith, grouped, names_more, length-append r.done_groups (r.groups ∷ []))) in
      let all : all_task_lines (told above).tasks (told above).calls (told above).groups ≡ before ++ task_lines r.name r.calls r.groups = ap (λ (t : List (List ℕ)). all_task_lines t (told above).calls (told above).groups) r.names_are ∙ ap₂ (λ (x : List (List Call)) (y : List (List Group)). all_task_lines (r.done_names ++ r.name ∷ []) x y) r.all_are r.groups_are ∙ pushed in
      line ∙ ap (λ (t : List Line). t ++ StatementLine EndLine ∷ []) (r.written ∙ ap (λ (t : List Line). before ++ StatementLine (TaskLine r.name) ∷ t) closed) ∙ append_assoc before (StatementLine (TaskLine r.name) ∷ own) (StatementLine EndLine ∷ []) ∙ sym all

  -- the line of a good line's call, and that it is free of all windows of two layers
  call_back : (s : Setting) (ls : List Line) (layers : List (List ℕ)) (act : Act) → AreUnder s (StatementLine (CallLine layers act) ∷ ls) → line_of_call p.slot_names p.bitmap_names (call_below (told (stated ls)) layers act) ≡ CallLine layers act
  call_back s ls layers act u =
      let above : List Statement = stated ls in
      let h = here s above (CallLine layers act) u.good in
      let t = tests s above (CallLine layers act) u.good in
      let more : List (List ℕ) = and_names (told above).names layers in
      let places = placed_found p.slot_names more u.placed in
      line_back p.slot_names p.bitmap_names (told above).bitmap_names layers act h.2 t.range (bitmap_back p.bitmap_names (told above).bitmap_names layers act u.stored t.named) (map (place_among more) layers) (layers_back p.slot_names more layers places (all_named (told above).names layers))

  call_free : (s : Setting) (ls : List Line) (layers : List (List ℕ)) (act : Act) → AreUnder s (StatementLine (CallLine layers act) ∷ ls) → is_free_call p.pairs (call_below (told (stated ls)) layers act) ≡ true
  call_free s ls layers act u =
      let above : List Statement = stated ls in
      let more : List (List ℕ) = and_names (told above).names layers in
      let slots : List ℕ = map (place_among more) layers in
      let places = placed_found p.slot_names more u.placed in
      let back : map (λ s. slice_index_or p.slot_names s []) slots ≡ layers = layers_back p.slot_names more layers places (all_named (told above).names layers) in
      let apart : parts_pair pairs (CallLine (map (λ s. slice_index_or p.slot_names s []) slots) act) ≡ false = ap (λ (ns : List (List ℕ)). parts_pair pairs (CallLine ns act)) back ∙ u.free.0 in
      let long : length slots ≡ layers_of act = length-map layers (place_among more) ∙ (here s above (CallLine layers act) u.good).2.0 in
      ap (λ (ps : List Pair). is_free_call ps (call_below (told above) layers act)) (sym mapped) ∙ call_is_free p.slot_names (told above).bitmap_names pairs slots act long found apart

  -- A line of a task under way.
  module _ (s : Setting) (ls : List Line) (good : AreGoodLines s (stated ls)) (due : (told (stated ls)).section ≡ CallsAreDue) (r : AreTold ls) where
    abbrev above : List Statement
    above = stated ls

    -- what is known of the task
    abbrev known : IsTask (view_of above) r.calls r.groups
    known = nearest_task s above good due r.done r.done_groups r.calls r.groups r.all_are r.groups_are

    -- the same, where the group that is open is known
    state_at : (o : Option OpenGroup) → (told above).group ≡ o → OpenState o (told above).calls_in_task (told above).calls_before_group (told above).names r.calls r.groups
    state_at o e =
        let P : Option OpenGroup → Type 0 = λ k. OpenState k (told above).calls_in_task (told above).calls_before_group (told above).names r.calls r.groups in
        subst P e known.state

    -- the task's lines so far, where this group is open
    lines_at : (o : Option OpenGroup) → (told above).group ≡ o → lines_so_far p o (told above).calls_before_group r.calls r.groups ≡ lines_so_far p (told above).group (told above).calls_before_group r.calls r.groups
    lines_at o e = ap (λ (k : Option OpenGroup). lines_so_far p k (told above).calls_before_group r.calls r.groups) (sym e)

    -- a call that neither begins nor ends an update
    plain_told : (layers : List (List ℕ)) (act : Act) → is_beginning act ≡ false → is_ending act ≡ false → line_of_call p.slot_names p.bitmap_names (call_below (told above) layers act) ≡ CallLine layers act → is_free_call p.pairs (call_below (told above) layers act) ≡ true → AreTold (StatementLine (CallLine layers act) ∷ ls)
    plain_told layers act begins ends line free =
        let c : Call = call_below (told above) layers act in
        let new : List Statement = CallLine layers act ∷ above in
        let e = plain_groups above layers act begins ends in
        let end : open_group_before (told above).group (told above).calls_before_group (length r.calls + 1) ≡ [] = open_group_behind (told above).group (told above).calls_in_task (told above).calls_before_group (length r.calls + 1) (told above).names r.calls r.groups known.state (omega (arith, known.long)) in
        let more = call_line p (told above).group (told above).group (told above).calls_before_group (told above).calls_before_group r.calls r.groups c (CallLine layers act) known.inside line (λ m low. refl) end in
        let still = free_more (told above).group (told above).calls_in_task (told above).calls_before_group (told above).names r.calls r.groups c known.state known.long free r.free in
        let P : Option OpenGroup → Type 0 = λ o. AreHeldFree o (drop (told above).calls_before_group (r.calls ++ c ∷ [])) in
        let Q : ℕ → Type 0 = λ n. AreHeldFree (told new).group (drop n (r.calls ++ c ∷ [])) in
        line_told ls (StatementLine (CallLine layers act)) r (r.calls ++ c ∷ []) r.groups refl (ap (onto_last c) r.all_are ∙ onto_pushed c r.done r.calls) (e.0 ∙ r.groups_are) refl (ap₂ (λ (o : Option OpenGroup) (n : ℕ). lines_so_far p o n (r.calls ++ c ∷ []) r.groups) e.1 e.2 ∙ more) (subst Q (sym e.2) (subst P (sym e.1) still))

    -- an update begins, and ends
    refresh_told : (l : List ℕ) → (told above).group ≡ None → line_of_call p.slot_names p.bitmap_names (call_below (told above) (l ∷ []) (BareAct RefreshVerb)) ≡ CallLine (l ∷ []) (BareAct RefreshVerb) → AreTold (StatementLine (CallLine (l ∷ []) (BareAct RefreshVerb)) ∷ ls)
    refresh_told l none line =
        let f : Statement = CallLine (l ∷ []) (BareAct RefreshVerb) in
        let c : Call = call_below (told above) (l ∷ []) (BareAct RefreshVerb) in
        let calls_in_task : ℕ = (told above).calls_in_task in
        let more = call_line p None (Some (Updating l)) (told above).calls_before_group calls_in_task r.calls r.groups c f known.inside line (λ m low. update_before l calls_in_task m ∙ sym (none_before p (told above).calls_before_group m)) (update_before l calls_in_task (length r.calls + 1)) in
        line_told ls (StatementLine f) r (r.calls ++ c ∷ []) r.groups refl (ap (onto_last c) r.all_are ∙ onto_pushed c r.done r.calls) r.groups_are refl (more ∙ ap (λ (t : List Line). t ++ StatementLine f ∷ []) (lines_at None none)) tt

    endrefresh_told : (l : List ℕ) (full : Bool) → (told above).group ≡ Some (Updating l) → line_of_call p.slot_names p.bitmap_names (call_below (told above) (l ∷ []) (EndRefreshAct full)) ≡ CallLine (l ∷ []) (EndRefreshAct full) → AreTold (StatementLine (CallLine (l ∷ []) (EndRefreshAct full)) ∷ ls)
    endrefresh_told l full same line =
        let f : Statement = CallLine (l ∷ []) (EndRefreshAct full) in
        let c : Call = call_below (told above) (l ∷ []) (EndRefreshAct full) in
        let slot : ℕ = place_among (told above).names l in
        let group : Group = group_from (told above) (Slot slot) ((told above).calls_in_task + 1) in
        let state : OpenState (Some (Updating l)) (told above).calls_in_task (told above).calls_before_group (told above).names r.calls r.groups = state_at (Some (Updating l)) same in
        let begins : is_update (r.calls ++ c ∷ []) group ≡ true = ap are_updating (drop_pushed r.calls c (told above).calls_before_group (omega (arith, state.0.order, known.long))) ∙ update_begins slot (drop (told above).calls_before_group r.calls) c state.2 in
        let more = update_line p l slot r.calls r.groups group c f known.inside refl begins line in
        line_told ls (StatementLine f) r (r.calls ++ c ∷ []) (r.groups ++ group ∷ []) refl (ap (onto_last c) r.all_are ∙ onto_pushed c r.done r.calls) (ap (onto_last group) r.groups_are ∙ onto_pushed group r.done_groups r.groups) refl (more ∙ ap (λ (t : List Line). t ++ StatementLine f ∷ []) (lines_at (Some (Updating l)) same)) tt

    -- a lock or a hold begins
    lock_told : (name : List ℕ) → (told above).group ≡ None → AreTold (StatementLine (LockLine name) ∷ ls)
    lock_told name none =
        let begun = group_begun p (Locked name) (told above).calls_before_group r.calls r.groups in
        line_told ls (StatementLine (LockLine name)) r r.calls r.groups refl r.all_are r.groups_are refl (ap (λ n. lines_so_far p (Some (Locked name)) n r.calls r.groups) (sym known.long) ∙ begun ∙ ap (λ (t : List Line). t ++ StatementLine (LockLine name) ∷ []) (lines_at None none)) tt

    hold_told : (told above).group ≡ None → AreTold (StatementLine HoldLine ∷ ls)
    hold_told none =
        let begun = group_begun p Held (told above).calls_before_group r.calls r.groups in
        let nothing : drop (told above).calls_in_task r.calls ≡ [] = drop_all (told above).calls_in_task r.calls (omega (arith, known.long)) in
        line_told ls (StatementLine HoldLine) r r.calls r.groups refl r.all_are r.groups_are refl (ap (λ n. lines_so_far p (Some Held) n r.calls r.groups) (sym known.long) ∙ begun ∙ ap (λ (t : List Line). t ++ StatementLine HoldLine ∷ []) (lines_at None none)) (ap (list_all (is_free_call p.pairs)) nothing)

    -- a lock or a hold ends
    unlock_told : (name : List ℕ) → (told above).group ≡ Some (Locked name) → (told above).calls_before_group < (told above).calls_in_task → IsFoundIn p.slot_names (told above).names → AreTold (StatementLine (UnlockLine name) ∷ ls)
    unlock_told name same some places =
        let slot : ℕ = place_among (told above).names name in
        let group : Group = group_from (told above) (Slot slot) (told above).calls_in_task in
        let state : OpenState (Some (Locked name)) (told above).calls_in_task (told above).calls_before_group (told above).names r.calls r.groups = state_at (Some (Locked name)) same in
        let back : slice_index_or p.slot_names slot [] ≡ name = places name state.1 in
        let none : is_update r.calls group ≡ false = locked_begin_none slot (drop (told above).calls_before_group r.calls) state.2 in
        let opening : opening_lines p.slot_names (Slot slot) (is_update r.calls group) ≡ StatementLine (LockLine name) ∷ [] = ap (λ t. opening_lines p.slot_names (Slot slot) t) none ∙ ap (λ (n : List ℕ). StatementLine (LockLine n) ∷ []) back in
        let closing : closing_lines p.slot_names (Slot slot) (is_update r.calls group) ≡ StatementLine (UnlockLine name) ∷ [] = ap (λ t. closing_lines p.slot_names (Slot slot) t) none ∙ ap (λ (n : List ℕ). StatementLine (UnlockLine n) ∷ []) back in
        let ended = group_ended p (Some (Locked name)) r.calls r.groups group (StatementLine (UnlockLine name) ∷ []) (omega (arith, some, known.long)) (omega (arith, some, known.long)) refl opening closing in
        line_told ls (StatementLine (UnlockLine name)) r r.calls (r.groups ++ group ∷ []) refl r.all_are (ap (onto_last group) r.groups_are ∙ onto_pushed group r.done_groups r.groups) refl (ended ∙ ap (λ (t : List Line). t ++ StatementLine (UnlockLine name) ∷ []) (lines_at (Some (Locked name)) same)) tt

    release_told : (told above).group ≡ Some Held → (told above).calls_before_group < (told above).calls_in_task → AreTold (StatementLine ReleaseLine ∷ ls)
    release_told same some =
        let group : Group = group_from (told above) AllLayers (told above).calls_in_task in
        let P : Option OpenGroup → Type 0 = λ o. AreHeldFree o (drop (told above).calls_before_group r.calls) in
        let long : length (drop (told above).calls_before_group r.calls) ≡ length r.calls - (told above).calls_before_group = length-drop (told above).calls_before_group r.calls in
        let none : word_for p.pairs r.calls group ≡ None = no_word (drop (told above).calls_before_group r.calls) ((((told above).calls_in_task - 1) + 1) - (told above).calls_before_group) (omega (arith, some, long, known.long)) (omega (arith, some)) (subst P same r.free) in
        let ended = group_ended p (Some Held) r.calls r.groups group (StatementLine ReleaseLine ∷ []) (omega (arith, some, known.long)) (omega (arith, some, known.long)) none refl refl in
        line_told ls (StatementLine ReleaseLine) r r.calls (r.groups ++ group ∷ []) refl r.all_are (ap (onto_last group) r.groups_are ∙ onto_pushed group r.done_groups r.groups) refl (ended ∙ ap (λ (t : List Line). t ++ StatementLine ReleaseLine ∷ []) (lines_at (Some Held) same)) tt

  -- any call
  call_told : (s : Setting) (ls : List Line) (layers : List (List ℕ)) (act : Act) → AreUnder s (StatementLine (CallLine layers act) ∷ ls) → (told (stated ls)).section ≡ CallsAreDue → AreTold ls → AreTold (StatementLine (CallLine layers act) ∷ ls)
  call_told s ls [] (BareAct RefreshVerb) u due r = absurd (cc ((here s (stated ls) (CallLine [] (BareAct RefreshVerb)) u.good).2.0))
  call_told s ls (l ∷ []) (BareAct RefreshVerb) u due r =
      refresh_told s ls u.good.1 due r l (opens_none (told (stated ls)).group l (tests s (stated ls) (CallLine (l ∷ []) (BareAct RefreshVerb)) u.good).group) (call_back s ls (l ∷ []) (BareAct RefreshVerb) u)
  call_told s ls (l ∷ m ∷ ms) (BareAct RefreshVerb) u due r = absurd (omega (arith, (here s (stated ls) (CallLine (l ∷ m ∷ ms) (BareAct RefreshVerb)) u.good).2.0))
  call_told s ls [] (EndRefreshAct full) u due r = absurd (cc ((here s (stated ls) (CallLine [] (EndRefreshAct full)) u.good).2.0))
  call_told s ls (l ∷ []) (EndRefreshAct full) u due r =
      endrefresh_told s ls u.good.1 due r l full (ends_same (told (stated ls)).group l full (tests s (stated ls) (CallLine (l ∷ []) (EndRefreshAct full)) u.good).group) (call_back s ls (l ∷ []) (EndRefreshAct full) u)
  call_told s ls (l ∷ m ∷ ms) (EndRefreshAct full) u due r = absurd (omega (arith, (here s (stated ls) (CallLine (l ∷ m ∷ ms) (EndRefreshAct full)) u.good).2.0))
  call_told s ls layers (NumberAct verb n) u due r =
      let q = number_plain verb n in plain_told s ls u.good.1 due r layers (NumberAct verb n) q.0 q.1 (call_back s ls layers (NumberAct verb n) u) (call_free s ls layers (NumberAct verb n) u)
  call_told s ls layers (PairAct verb x y) u due r =
      let q = pair_plain verb x y in plain_told s ls u.good.1 due r layers (PairAct verb x y) q.0 q.1 (call_back s ls layers (PairAct verb x y) u) (call_free s ls layers (PairAct verb x y) u)
  call_told s ls layers (TextAct verb text) u due r =
      let q = text_plain verb text in plain_told s ls u.good.1 due r layers (TextAct verb text) q.0 q.1 (call_back s ls layers (TextAct verb text) u) (call_free s ls layers (TextAct verb text) u)
  call_told s ls layers act u due r = plain_told s ls u.good.1 due r layers act refl refl (call_back s ls layers act u) (call_free s ls layers act u)

  -- what is done with a window of two layers
  gzz_line_told : (s : Setting) (ls : List Line) (g : List ℕ) (act : GzzAct) → AreUnder s (GzzLine g act ∷ ls) → AreUnder s ls → ToldOrClosed (are_calls_due (told (stated ls)).section) ls → ToldOrClosed (are_calls_due (told (stated (GzzLine g act ∷ ls))).section) (GzzLine g act ∷ ls)
  gzz_line_told s ls g act u below h =
      let above : List Statement = stated ls in
      let names : List (List ℕ) = p.slot_names in
      let read = line_good s above (written (GzzLine g act)) (GzzLine g act) u.written.0 in
      let tested = gzz_passed (told above) g act read.1 in
      let due : (told above).section ≡ CallsAreDue = in_calls (told above).section read.0.calls in
      let R : Section → Type 0 = λ c. ToldOrClosed (are_calls_due c) ls in
      let r : AreTold ls = subst R due h in
      let known = nearest_task s above below.good due r.done r.done_groups r.calls r.groups r.all_are r.groups_are in
      let k = gzz_told names above g act r.done r.done_groups r.calls r.groups u.placed known.long r.all_are r.groups_are in
      let q : NamedPair = record { outer = g; inner = inner_by (told above).pairs g act } in
      let one : IsOneOf q pairs = u.among q (pair_found above g act tested.known) in
      let in_plan : IsIn (pair_among names q) p.pairs = subst (IsIn (pair_among names q)) mapped (slots_among names pairs q one) in
      let none : (told above).group ≡ None = none_open (told above).group tested.group in
      let new : List Statement = stated (GzzLine g act ∷ ls) in
      let calls : List Call = r.calls ++ done_calls names above g act in
      let groups : List Group = r.groups ++ done_group names above g act (length r.calls) ∷ [] in
      let more : lines_so_far p None (told new).calls_before_group calls groups ≡ lines_so_far p None (told above).calls_before_group r.calls r.groups ++ GzzLine g act ∷ [] = gzz_lined p (told above).calls_before_group (told new).calls_before_group above g act r.calls r.groups known.inside read.0.made u.placed (found_pair names pairs q one found) in_plan in
      let all : lines_so_far p (told new).group (told new).calls_before_group calls groups ≡ lines_so_far p (told above).group (told above).calls_before_group r.calls r.groups ++ GzzLine g act ∷ [] = ap (λ (o : Option OpenGroup). lines_so_far p o (told new).calls_before_group calls groups) k.group ∙ (more ∙ ap (λ (o : Option OpenGroup). lines_so_far p o (told above).calls_before_group r.calls r.groups ++ GzzLine g act ∷ []) (sym none)) in
      let Q : Option OpenGroup → Type 0 = λ o. AreHeldFree o (drop (told new).calls_before_group calls) in
      let S : Section → Type 0 = λ c. ToldOrClosed (are_calls_due c) (GzzLine g act ∷ ls) in
      subst S (sym (k.section ∙ due)) (line_told ls (GzzLine g act) r calls groups k.tasks k.calls_are k.groups_are refl all (subst Q (sym k.group) tt))

  -- a line inside a task, where it stands
  inside_told : (c : Section) (ls : List Line) (f : Statement) → c ≡ CallsAreDue → (AreTold ls → AreTold (StatementLine f ∷ ls)) → ToldOrClosed (are_calls_due c) ls → ToldOrClosed (are_calls_due c) (StatementLine f ∷ ls)
  inside_told c ls f e go h =
      let P : Section → Type 0 = λ k. ToldOrClosed (are_calls_due k) ls in
      let Q : Section → Type 0 = λ k. ToldOrClosed (are_calls_due k) (StatementLine f ∷ ls) in
      let before : AreTold ls = subst P e h in
      subst Q (sym e) (go before)

  -- a line outside tasks
  outside_told : (c d : Section) (ls : List Line) (l : Line) → are_calls_due c ≡ false → are_calls_due d ≡ false → (AreClosed ls → AreClosed (l ∷ ls)) → ToldOrClosed (are_calls_due c) ls → ToldOrClosed (are_calls_due d) (l ∷ ls)
  outside_told c d ls l off still go h = closed_told (are_calls_due d) (l ∷ ls) still (go (told_closed (are_calls_due c) ls off h))

  -- Good lines tell their tasks.
  pub tasks_told : (s : Setting) (ls : List Line) → AreUnder s ls → ToldOrClosed (are_calls_due (told (stated ls)).section) ls
  tasks_told s [] u = refl
  tasks_told s (AreaLine layer pattern points ∷ ls) u = absurd u.written.0
  tasks_told s (GzzLine g act ∷ ls) u = let below = under_gzz s g act ls u in gzz_line_told s ls g act u below (tasks_told s ls below)
  tasks_told s (StatementLine LayersLine ∷ ls) u =
      let off = ap are_calls_due (version_first s (stated ls) u.good) in
      outside_told (told (stated ls)).section (told (stated ls)).section ls (StatementLine LayersLine) off off (λ h. h) (tasks_told s ls (under_line s LayersLine ls u))
  tasks_told s (StatementLine (ScreenLine w h d) ∷ ls) u =
      told_closed (are_calls_due (told (stated ls)).section) ls (no_calls_in_screen (told (stated ls)).section (here s (stated ls) (ScreenLine w h d) u.good).1) (tasks_told s ls (under_line s (ScreenLine w h d) ls u))
  tasks_told s (StatementLine (GlyphLine code rows) ∷ ls) u =
      let off = no_calls_in_assets (told (stated ls)).section (here s (stated ls) (GlyphLine code rows) u.good).1 in
      outside_told (told (stated ls)).section (told (stated ls)).section ls (StatementLine (GlyphLine code rows)) off off (λ h. h) (tasks_told s ls (under_line s (GlyphLine code rows) ls u))
  tasks_told s (StatementLine (BitmapLine name w h d) ∷ ls) u =
      let off = no_calls_in_assets (told (stated ls)).section (here s (stated ls) (BitmapLine name w h d) u.good).1 in
      outside_told (told (stated ls)).section (told (stated ls)).section ls (StatementLine (BitmapLine name w h d)) off off (λ h. h) (tasks_told s ls (under_line s (BitmapLine name w h d) ls u))
  tasks_told s (StatementLine (RowLine bytes) ∷ ls) u =
      let off = no_calls_in_assets (told (stated ls)).section (rows_in_assets s (stated ls) u.good.1 (here s (stated ls) (RowLine bytes) u.good).0) in
      outside_told (told (stated ls)).section (told (stated ls)).section ls (StatementLine (RowLine bytes)) off off (λ h. h) (tasks_told s ls (under_line s (RowLine bytes) ls u))
  tasks_told s (StatementLine (PatternLine name words) ∷ ls) u =
      let off = no_calls_in_assets (told (stated ls)).section (here s (stated ls) (PatternLine name words) u.good).1 in
      outside_told (told (stated ls)).section (told (stated ls)).section ls (StatementLine (PatternLine name words)) off off (λ h. h) (tasks_told s ls (under_line s (PatternLine name words) ls u))
  tasks_told s (StatementLine (TaskLine name) ∷ ls) u =
      let off = no_calls_at_task (told (stated ls)).section (here s (stated ls) (TaskLine name) u.good).1 in
      task_told s ls name u.good.1 off (told_closed (are_calls_due (told (stated ls)).section) ls off (tasks_told s ls (under_line s (TaskLine name) ls u)))
  tasks_told s (StatementLine EndLine ∷ ls) u =
      let P : Section → Type 0 = λ k. ToldOrClosed (are_calls_due k) ls in
      end_told s ls u.good (subst P (in_calls (told (stated ls)).section (here s (stated ls) EndLine u.good).1) (tasks_told s ls (under_line s EndLine ls u)))
  tasks_told s (StatementLine OrderLine ∷ ls) u =
      told_closed (are_calls_due (told (stated ls)).section) ls (ap are_calls_due (in_tasks (told (stated ls)).section (and_parts (are_tasks_due (told (stated ls)).section) _ (here s (stated ls) OrderLine u.good).1).0)) (tasks_told s ls (under_line s OrderLine ls u))
  tasks_told s (StatementLine (NumbersLine zs) ∷ ls) u =
      let off = no_calls_in_numbers (told (stated ls)).section (here s (stated ls) (NumbersLine zs) u.good).1 in
      outside_told (told (stated ls)).section (told (stated ls)).section ls (StatementLine (NumbersLine zs)) off off (λ h. h) (tasks_told s ls (under_line s (NumbersLine zs) ls u))
  tasks_told s (StatementLine ReportLine ∷ ls) u =
      told_closed (are_calls_due (told (stated ls)).section) ls (ap are_calls_due (in_tasks (told (stated ls)).section (and_parts (are_tasks_due (told (stated ls)).section) _ (here s (stated ls) ReportLine u.good).1).0)) (tasks_told s ls (under_line s ReportLine ls u))
  tasks_told s (StatementLine (CallLine layers act) ∷ ls) u =
      let due = in_calls (told (stated ls)).section (here s (stated ls) (CallLine layers act) u.good).1 in
      inside_told (told (stated ls)).section ls (CallLine layers act) due (call_told s ls layers act u due) (tasks_told s ls (under_line s (CallLine layers act) ls u))
  tasks_told s (StatementLine (LockLine name) ∷ ls) u =
      let due = in_calls (told (stated ls)).section (here s (stated ls) (LockLine name) u.good).1 in
      inside_told (told (stated ls)).section ls (LockLine name) due (λ r. lock_told s ls u.good.1 due r name (none_open (told (stated ls)).group (tests s (stated ls) (LockLine name) u.good).group)) (tasks_told s ls (under_line s (LockLine name) ls u))
  tasks_told s (StatementLine (UnlockLine name) ∷ ls) u =
      let due = in_calls (told (stated ls)).section (here s (stated ls) (UnlockLine name) u.good).1 in
      let t = and_parts (is_lock_on name (told (stated ls)).group) _ (tests s (stated ls) (UnlockLine name) u.good).group in
      let below = under_line s (UnlockLine name) ls u in
      inside_told (told (stated ls)).section ls (UnlockLine name) due (λ r. unlock_told s ls u.good.1 due r name (unlocks_same (told (stated ls)).group name t.0) (ltb-true _ _ t.1) (placed_found p.slot_names (told (stated ls)).names below.placed)) (tasks_told s ls below)
  tasks_told s (StatementLine HoldLine ∷ ls) u =
      let due = in_calls (told (stated ls)).section (here s (stated ls) HoldLine u.good).1 in
      inside_told (told (stated ls)).section ls HoldLine due (λ r. hold_told s ls u.good.1 due r (none_open (told (stated ls)).group (tests s (stated ls) HoldLine u.good).group)) (tasks_told s ls (under_line s HoldLine ls u))
  tasks_told s (StatementLine ReleaseLine ∷ ls) u =
      let due = in_calls (told (stated ls)).section (here s (stated ls) ReleaseLine u.good).1 in
      let t = and_parts (is_hold (told (stated ls)).group) _ (tests s (stated ls) ReleaseLine u.good).group in
      inside_told (told (stated ls)).section ls ReleaseLine due (λ r. release_told s ls u.good.1 due r (releases_held (told (stated ls)).group t.0) (ltb-true _ _ t.1)) (tasks_told s ls (under_line s ReleaseLine ls u))
  tasks_told s (StatementLine (NameWithoutSlot name) ∷ ls) u =
      let due = in_calls (told (stated ls)).section (here s (stated ls) (NameWithoutSlot name) u.good).1 in
      inside_told (told (stated ls)).section ls (NameWithoutSlot name) due (seen_told ls name) (tasks_told s ls (under_line s (NameWithoutSlot name) ls u))
  tasks_told s (StatementLine (PairMade outer inner) ∷ ls) u = absurd (false≢true (read_has_line s (told (stated ls)) (PairMade outer inner) u.written.0.0))

  -- So they are those of all tasks where no task is under way.
  pub tasks_closed : (s : Setting) (ls : List Line) → AreUnder s ls → are_calls_due (told (stated ls)).section ≡ false → AreClosed ls
  tasks_closed s ls u e = told_closed (are_calls_due (told (stated ls)).section) ls e (tasks_told s ls u)
