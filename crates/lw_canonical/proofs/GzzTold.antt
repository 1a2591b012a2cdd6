-- What is told by a line that does something with a window of two layers: its calls in a group of their own, which stand for a
-- word of that window.
use Rattle.std.proofs.Common.{◌≡◌, ℕ, suc, ◌+◌, ◌-◌, ◌<◌, false, List, [], ◌∷◌, ◌++◌, length, map, take, drop, slice_index_or, Some, None, refl, sym, ap, ap₂, subst, ◌∙◌, arith, append-nil, append_assoc}
use Rattle.lw_calls.specs.declared.pair.Pair.{Pair}
use Rattle.lw_calls.specs.declared.call.Call.{Call}
use Rattle.lw_calls.specs.declared.group.Hold.TheVariants.{All as AllLayers}
use Rattle.lw_calls.specs.declared.group.Group.{Group}
use Rattle.lw_calls.specs.Plan.{Plan, group_calls}
use Rattle.lw_gzz.specs.declared.word.GzzWord.{GzzWord}
use Rattle.lw_grammar.specs.Statements.{InFrontAct, Statement, CallLine, HoldLine, ReleaseLine, GzzAct, OpenGzz, BoxGzz, FrontGzz, BehindGzz, InFrontGzz, CloseGzz, Line, GzzLine}
use Rattle.lw_grammar.specs.Told.{Told, and_names, place_among, onto_last, spelled_call, call_below, gzz_calls, inner_by, pair_lines, gzz_lines, told, pair_among}
use Rattle.lw_grammar.specs.Script.{is_beginning, is_ending, added}
use Rattle.lw_grammar.proofs.ScriptNames.{all_named}
use Rattle.lw_grammar.proofs.ScriptStatements.{IsGzzMade}
use Rattle.lw_grammar.proofs.ScriptTasks.{plain_groups, onto_pushed}
use Rattle.lw_grammar.proofs.AreaLines.{added_parts}
use Rattle.lw_canonical.specs.Canonical.{word_among, word_for, line_of_word}
use Rattle.lw_canonical.proofs.ByNumber.{found_itself}
use Rattle.lw_canonical.proofs.FreeCalls.{IsFoundPair}
use Rattle.lw_canonical.proofs.GzzWords.{word_done, calls_done, pair_at, calls_spell, IsIn, among_has, IsNamedBy, word_line_back}
use Rattle.lw_canonical.proofs.GroupLines.{AreInside, lines_so_far, word_line}
use Rattle.lw_canonical.proofs.PairsFound.{IsPlacedIn, placed_below, placed_under, places_same}
use Rattle.std.proofs.lemmas.List.{take_all, drop_at}

-- calls that neither begin nor end an update
abbrev ArePlainCalls : List Statement → Type 0
ArePlainCalls [] = Unit {0}
ArePlainCalls (CallLine layers act ∷ fs) = (is_beginning act ≡ false) × (is_ending act ≡ false) × ArePlainCalls fs
ArePlainCalls (f ∷ fs) = ⊥

gzz_plain : (g i : List ℕ) (act : GzzAct) → ArePlainCalls (gzz_calls g i act)
gzz_plain g i (OpenGzz inner kind place r classes title) = (refl, refl, (refl, refl, (refl, refl, tt)))
gzz_plain g i (BoxGzz r) = (refl, refl, (refl, refl, tt))
gzz_plain g i FrontGzz = (refl, refl, (refl, refl, tt))
gzz_plain g i BehindGzz = (refl, refl, (refl, refl, tt))
gzz_plain g i (InFrontGzz m) = (refl, refl, (refl, refl, tt))
gzz_plain g i CloseGzz = (refl, refl, (refl, refl, tt))

-- further statements leave the tasks but for the calls of the nearest one
record AreGrown (t u : Told) (done : List (List Call)) (calls : List Call) (n : ℕ) : Type 0 where
  tasks : u.tasks ≡ t.tasks
  section : u.section ≡ t.section
  groups : u.groups ≡ t.groups
  calls_before_group : u.calls_before_group ≡ t.calls_before_group
  calls_in_task : u.calls_in_task ≡ t.calls_in_task + n
  calls_are : u.calls ≡ done ++ calls ∷ []

-- what a line that stands for several statements tells of tasks
pub record IsGroupTold (t u : Told) (done : List (List Call)) (done_groups : List (List Group)) (calls : List Call) (groups : List Group) : Type 0 where
  pub tasks : u.tasks ≡ t.tasks
  pub section : u.section ≡ t.section
  pub group : u.group ≡ None
  pub calls_are : u.calls ≡ done ++ calls ∷ []
  pub groups_are : u.groups ≡ done_groups ++ groups ∷ []

-- the making of a pair tells nothing of them
pair_told : (g : List ℕ) (act : GzzAct) (new : List Statement) (t : Told) (done : List (List Call)) (done_groups : List (List Group)) (calls : List Call) (groups : List Group) → IsGroupTold t (told new) done done_groups calls groups → IsGroupTold t (told (added (pair_lines g act) new)) done done_groups calls groups
pair_told g (OpenGzz inner kind place r classes title) new t done done_groups calls groups h =
    record { tasks = h.tasks; section = h.section; group = h.group; calls_are = h.calls_are; groups_are = h.groups_are }
pair_told g (BoxGzz r) new t done done_groups calls groups h = h
pair_told g FrontGzz new t done done_groups calls groups h = h
pair_told g BehindGzz new t done done_groups calls groups h = h
pair_told g (InFrontGzz m) new t done done_groups calls groups h = h
pair_told g CloseGzz new t done done_groups calls groups h = h

-- the slot of the layer in front of which a line puts its window
abbrev other_place : List (List ℕ) → GzzAct → ℕ
other_place names (InFrontGzz m) = place_among names m
other_place names act = 0

-- a list that isn't empty
some_done : (bitmaps : List (List ℕ)) (o i m : ℕ) (act : GzzAct) → 0 < length (calls_done bitmaps o i m act)
some_done bitmaps o i m (OpenGzz inner kind place r classes title) = omega arith
some_done bitmaps o i m (BoxGzz r) = omega arith
some_done bitmaps o i m FrontGzz = omega arith
some_done bitmaps o i m BehindGzz = omega arith
some_done bitmaps o i m (InFrontGzz n) = omega arith
some_done bitmaps o i m CloseGzz = omega arith

-- Where the layers have these names by slot.
module _ (names : List (List ℕ)) where
  -- the calls of statements
  abbrev calls_by_name : List (List ℕ) → List Statement → List Call
  calls_by_name bitmaps [] = []
  calls_by_name bitmaps (CallLine layers act ∷ fs) = spelled_call bitmaps act (map (place_among names) layers) ∷ calls_by_name bitmaps fs
  calls_by_name bitmaps (f ∷ fs) = calls_by_name bitmaps fs

  grown : (fs above : List Statement) (done : List (List Call)) (calls : List Call) → ArePlainCalls fs → IsPlacedIn names (told (added fs above)).names → (told above).calls ≡ done ++ calls ∷ [] → AreGrown (told above) (told (added fs above)) done (calls ++ calls_by_name (told above).bitmap_names fs) (length fs)
  grown [] above done calls p placed h =
      record { tasks = refl; section = refl; groups = refl; calls_before_group = refl; calls_in_task = omega arith; calls_are = h ∙ ap (λ (cs : List Call). done ++ cs ∷ []) (sym (append-nil calls)) }
  grown (CallLine layers act ∷ fs) above done calls p placed h =
      let next : List Statement = CallLine layers act ∷ above in
      let c : Call = call_below (told above) layers act in
      let more : List Call = calls_by_name (told above).bitmap_names fs in
      let here : IsPlacedIn names (and_names (told above).names layers) = placed_under names fs next placed in
      let slots = places_same names (and_names (told above).names layers) layers here (all_named (told above).names layers) in
      let same : c ≡ spelled_call (told above).bitmap_names act (map (place_among names) layers) = ap (λ (is : List ℕ). spelled_call (told above).bitmap_names act is) slots in
      let e = plain_groups above layers act p.0 p.1 in
      let k = grown fs next done (calls ++ c ∷ []) p.2 placed (ap (onto_last c) h ∙ onto_pushed c done calls) in
      let calls_in_task : (told (added fs next)).calls_in_task ≡ ((told above).calls_in_task + 1) + length fs = k.calls_in_task in
      record {
        tasks = k.tasks;
        section = k.section;
        groups = k.groups ∙ e.0;
        calls_before_group = k.calls_before_group ∙ e.2;
        calls_in_task = omega (arith, calls_in_task);
        calls_are = k.calls_are ∙ ap (λ (cs : List Call). done ++ cs ∷ []) (append_assoc calls (c ∷ []) more ∙ ap (λ (d : Call). calls ++ d ∷ more) same);
      }
  grown (f ∷ fs) above done calls p placed h = absurd p

  -- these are the calls of the line
  calls_named : (bitmaps : List (List ℕ)) (g i : List ℕ) (act : GzzAct) → calls_by_name bitmaps (gzz_calls g i act) ≡ calls_done bitmaps (place_among names g) (place_among names i) (other_place names act) act
  calls_named bitmaps g i (OpenGzz inner kind place r classes title) = refl
  calls_named bitmaps g i (BoxGzz r) = refl
  calls_named bitmaps g i FrontGzz = refl
  calls_named bitmaps g i BehindGzz = refl
  calls_named bitmaps g i (InFrontGzz m) = refl
  calls_named bitmaps g i CloseGzz = refl

  -- the calls of what is done with a window, and their group below so many calls
  abbrev pub done_calls : List Statement → List ℕ → GzzAct → List Call
  done_calls above g act =
      calls_done (told above).bitmap_names (place_among names g) (place_among names (inner_by (told above).pairs g act)) (other_place names act) act

  abbrev pub done_group : List Statement → List ℕ → GzzAct → ℕ → Group
  done_group above g act n = record { first = n; last = (n + length (done_calls above g act)) - 1; hold = AllLayers }

  -- They are all that the line tells of tasks.
  pub gzz_told : (above : List Statement) (g : List ℕ) (act : GzzAct) (done : List (List Call)) (done_groups : List (List Group)) (calls : List Call) (groups : List Group) → IsPlacedIn names (told (added (gzz_lines (told above).pairs g act) above)).names → length calls ≡ (told above).calls_in_task → (told above).calls ≡ done ++ calls ∷ [] → (told above).groups ≡ done_groups ++ groups ∷ [] → IsGroupTold (told above) (told (added (gzz_lines (told above).pairs g act) above)) done done_groups (calls ++ done_calls above g act) (groups ++ done_group above g act (length calls) ∷ [])
  gzz_told above g act done done_groups calls groups placed long all_are groups_are =
      let i : List ℕ = inner_by (told above).pairs g act in
      let fs : List Statement = gzz_calls g i act in
      let last : List Statement = ReleaseLine ∷ pair_lines g act in
      let held : List Statement = HoldLine ∷ above in
      let parts : added (gzz_lines (told above).pairs g act) above ≡ added last (added fs held) = added_parts fs last held in
      let P : List Statement → Type 0 = λ new. IsPlacedIn names (told new).names in
      let inside : IsPlacedIn names (told (added fs held)).names = placed_under names last (added fs held) (subst P parts placed) in
      let k = grown fs held done calls (gzz_plain g i act) inside all_are in
      let cs : List Call = calls_by_name (told above).bitmap_names fs in
      let same : cs ≡ done_calls above g act = calls_named (told above).bitmap_names g i act in
      let so_many : length fs ≡ length cs = counted fs (gzz_plain g i act) in
      let many : length cs ≡ length (done_calls above g act) = ap length same in
      let new : List Statement = ReleaseLine ∷ added fs held in
      let mine : Group = record { first = (told (added fs held)).calls_before_group; last = (told (added fs held)).calls_in_task - 1; hold = AllLayers } in
      let calls_before_group : (told (added fs held)).calls_before_group ≡ length calls = k.calls_before_group ∙ sym long in
      let calls_in_task : (told (added fs held)).calls_in_task ≡ (told above).calls_in_task + length fs = k.calls_in_task in
      let end : (told (added fs held)).calls_in_task - 1 ≡ (length calls + length (done_calls above g act)) - 1 = omega (arith, calls_in_task, long, so_many, many) in
      let is : mine ≡ done_group above g act (length calls) = ap₂ (λ (a b : ℕ). (let group : Group = record { first = a; last = b; hold = AllLayers } in group)) calls_before_group end in
      let grouped : (told new).groups ≡ done_groups ++ (groups ++ mine ∷ []) ∷ [] = ap (onto_last mine) (k.groups ∙ groups_are) ∙ onto_pushed mine done_groups groups in
      let at : IsGroupTold (told above) (told new) done done_groups (calls ++ done_calls above g act) (groups ++ done_group above g act (length calls) ∷ []) =
      record {
        tasks = k.tasks;
        section = k.section;
        group = refl;
        calls_are = k.calls_are ∙ ap (λ (ds : List Call). done ++ (calls ++ ds) ∷ []) same;
        groups_are = grouped ∙ ap (λ (x : Group). done_groups ++ (groups ++ x ∷ []) ∷ []) is;
      } in
      let Q : List Statement → Type 0 = λ all. IsGroupTold (told above) (told all) done done_groups (calls ++ done_calls above g act) (groups ++ done_group above g act (length calls) ∷ []) in
      subst Q (sym parts) (pair_told g act new (told above) done done_groups (calls ++ done_calls above g act) (groups ++ done_group above g act (length calls) ∷ []) at)
    where
      counted : (gs : List Statement) → ArePlainCalls gs → length gs ≡ length (calls_by_name (told above).bitmap_names gs)
      counted [] p = refl
      counted (CallLine layers act ∷ gs) p = ap suc (counted gs p.2)
      counted (f ∷ gs) p = absurd p

  -- the further name of the line is found by its slot
  named_by : (above : List Statement) (g : List ℕ) (act : GzzAct) → IsPlacedIn names (told (added (gzz_lines (told above).pairs g act) above)).names → slice_index_or names (place_among names (inner_by (told above).pairs g act)) [] ≡ inner_by (told above).pairs g act → IsNamedBy names (place_among names (inner_by (told above).pairs g act)) (other_place names act) act
  named_by above g (OpenGzz inner kind place r classes title) placed e = e
  named_by above g (InFrontGzz m) placed e =
      let first : List Statement = CallLine (g ∷ m ∷ []) InFrontAct ∷ HoldLine ∷ above in
      let then : IsPlacedIn names (told first).names = placed_below names (CallLine (inner_by (told above).pairs g (InFrontGzz m) ∷ g ∷ []) InFrontAct) first placed in
      found_itself names m (then m (all_named (told above).names (g ∷ m ∷ [])).1.0).0
  named_by above g act placed e = tt

-- The lines of a task's calls and groups with those of the line are one more, which is that line.
module _ (p : Plan) where
  -- calls that stand for a word, in a group of their own
  one_word : (calls_before_group now : ℕ) (calls cs : List Call) (groups : List Group) (g : Group) (w : Pair × GzzWord) → AreInside (length calls) groups → g.first ≡ length calls → suc g.last ≡ length calls + length cs → 0 < length cs → word_for p.pairs (calls ++ cs) g ≡ Some w → lines_so_far p None now (calls ++ cs) (groups ++ g ∷ []) ≡ lines_so_far p None calls_before_group calls groups ++ line_of_word p.slot_names w ∷ []
  one_word calls_before_group now calls [] groups g w inside first last some word = absurd (omega arith)
  one_word calls_before_group now calls (x ∷ xs) groups g w inside first last some word = word_line p calls_before_group now calls groups x xs g w inside first last word

  pub gzz_lined : (calls_before_group now : ℕ) (above : List Statement) (g : List ℕ) (act : GzzAct) (calls : List Call) (groups : List Group) → AreInside (length calls) groups → IsGzzMade act → IsPlacedIn p.slot_names (told (added (gzz_lines (told above).pairs g act) above)).names → IsFoundPair p.slot_names (record { outer = g; inner = inner_by (told above).pairs g act }) → IsIn (pair_among p.slot_names (record { outer = g; inner = inner_by (told above).pairs g act })) p.pairs → lines_so_far p None now (calls ++ done_calls p.slot_names above g act) (groups ++ done_group p.slot_names above g act (length calls) ∷ []) ≡ lines_so_far p None calls_before_group calls groups ++ GzzLine g act ∷ []
  gzz_lined calls_before_group now above g act calls groups inside made placed found among =
      let names : List (List ℕ) = p.slot_names in
      let i : List ℕ = inner_by (told above).pairs g act in
      let o : ℕ = place_among names g in
      let k : ℕ = place_among names i in
      let m : ℕ = other_place names act in
      let cs : List Call = done_calls names above g act in
      let n : ℕ = length calls in
      let group : Group = done_group names above g act n in
      let w : Pair × GzzWord = (pair_at o k, word_done act m) in
      let some : 0 < length cs = some_done (told above).bitmap_names o k m act in
      let own : drop n (calls ++ cs) ≡ cs = drop_at calls cs n refl in
      let whole : group_calls (calls ++ cs) group ≡ cs = ap (take ((((n + length cs) - 1) + 1) - n)) own ∙ take_all ((((n + length cs) - 1) + 1) - n) cs (omega (arith, some)) in
      let word : word_for p.pairs (calls ++ cs) group ≡ Some w = ap (word_among p.pairs) whole ∙ among_has p.pairs (pair_at o k) (word_done act m) cs (calls_spell (told above).bitmap_names o k m act made) among in
      let line : line_of_word names w ≡ GzzLine g act = word_line_back names o k m g act found.outer (named_by names above g act placed found.inner) in
      one_word calls_before_group now calls cs groups group w inside refl (omega (arith, some)) some word ∙ ap (λ (l : Line). lines_so_far p None calls_before_group calls groups ++ l ∷ []) line
