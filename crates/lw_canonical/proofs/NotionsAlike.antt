-- The lines of a script's tasks over a base tell what all its lines tell of tasks.
use Rattle.std.proofs.Common.{◌≡◌, ℕ, ◌+◌, ◌-◌, ◌≤◌, ◌==◌, Bool, true, false, cond, List, [], ◌∷◌, ◌++◌, map, filter, ℤ, None, refl, sym, ap, subst, ◌∙◌}
use Rattle.lw_calls.specs.declared.group.Hold.{Hold}
use Rattle.lw_calls.specs.declared.group.Hold.TheVariants.{Slot, All as AllLayers}
use Rattle.lw_grammar.specs.declared.verb.BareVerb.TheVariants.{Refresh as RefreshVerb}
use Rattle.lw_grammar.specs.Statements.{Act, BareAct, EndRefreshAct, Statement, LayersLine, ScreenLine, GlyphLine, BitmapLine, RowLine, PatternLine, TaskLine, EndLine, OrderLine, NumbersLine, ReportLine, CallLine, LockLine, UnlockLine, HoldLine, ReleaseLine, NameWithoutSlot, PairMade, version_at_screen}
use Rattle.lw_grammar.specs.Told.{Section, ScreenIsDue, AssetsAreDue, CallsAreDue, TasksAreDue, NumbersAreDue, NothingIsDue, nothing_told, and_name, and_names, place_among, onto_last, spelled_call, call_below, makes_super, hook_on, and_hook, left_open_by, group_from, told}
use Rattle.lw_grammar.specs.Script.{Setting, are_calls_due, are_tasks_due, are_numbers_due}
use Rattle.lw_grammar.specs.GoodLines.{AreGoodLines}
use Rattle.lw_grammar.proofs.ScriptOutcome.{rows_in_assets}
use Rattle.lw_grammar.proofs.ScriptSizes.{here, has_begun, has_screen, in_screen, in_assets, in_calls, in_tasks, in_numbers, in_assets_or_tasks, version_first}
use Rattle.lw_canonical.proofs.Rearranged.{is_of_tasks, IsBaseOf}
use Rattle.std.proofs.lemmas.Bool.{true≢false, false≢true, and_parts}

-- lines that tell nothing of tasks
pub record AreBare (above : List Statement) : Type 0 where
  pub of_tasks : filter is_of_tasks above ≡ []
  pub tasks : (told above).tasks ≡ []
  pub names : (told above).names ≡ []
  pub names_without_slot : (told above).names_without_slot ≡ []
  pub pairs : (told above).pairs ≡ []
  pub supers : (told above).supers ≡ 0
  pub hooks : (told above).names_hook ≡ nothing_told.names_hook
  pub group : (told above).group ≡ None
  pub calls_in_task : (told above).calls_in_task ≡ 0
  pub calls_before_group : (told above).calls_before_group ≡ 0
  pub calls : (told above).calls ≡ []
  pub groups : (told above).groups ≡ []

-- numbers stand where tasks have begun
numbers_begun : (c : Section) → are_numbers_due c ≡ true → has_begun c ≡ true
numbers_begun c e = ap has_begun (in_numbers c e)

-- a line of a task too
calls_begun : (c : Section) → are_calls_due c ≡ true → has_begun c ≡ true
calls_begun c e = ap has_begun (in_calls c e)

-- a task has begun, or none has
both_begun : (c : Section) → has_begun c ≡ true → has_begun c ≡ false → ⊥
both_begun c e n = true≢false (sym e ∙ n)

-- the version, the screen line, a glyph, a bitmap, a row or a pattern leaves lines bare
layers_bare : (above : List Statement) → AreBare above → AreBare (LayersLine ∷ above)
layers_bare above b =
    record { of_tasks = b.of_tasks; tasks = b.tasks; names = b.names; names_without_slot = b.names_without_slot; pairs = b.pairs; supers = b.supers; hooks = b.hooks; group = b.group; calls_in_task = b.calls_in_task; calls_before_group = b.calls_before_group; calls = b.calls; groups = b.groups }

screen_bare : (above : List Statement) (w h d : ℤ) → AreBare above → AreBare (ScreenLine w h d ∷ above)
screen_bare above w h d b =
    record { of_tasks = b.of_tasks; tasks = b.tasks; names = b.names; names_without_slot = b.names_without_slot; pairs = b.pairs; supers = b.supers; hooks = b.hooks; group = b.group; calls_in_task = b.calls_in_task; calls_before_group = b.calls_before_group; calls = b.calls; groups = b.groups }

glyph_bare : (above : List Statement) (code : ℕ) (rows : List ℕ) → AreBare above → AreBare (GlyphLine code rows ∷ above)
glyph_bare above code rows b =
    record { of_tasks = b.of_tasks; tasks = b.tasks; names = b.names; names_without_slot = b.names_without_slot; pairs = b.pairs; supers = b.supers; hooks = b.hooks; group = b.group; calls_in_task = b.calls_in_task; calls_before_group = b.calls_before_group; calls = b.calls; groups = b.groups }

bitmap_bare : (above : List Statement) (name : List ℕ) (w h d : ℤ) → AreBare above → AreBare (BitmapLine name w h d ∷ above)
bitmap_bare above name w h d b =
    record { of_tasks = b.of_tasks; tasks = b.tasks; names = b.names; names_without_slot = b.names_without_slot; pairs = b.pairs; supers = b.supers; hooks = b.hooks; group = b.group; calls_in_task = b.calls_in_task; calls_before_group = b.calls_before_group; calls = b.calls; groups = b.groups }

row_bare : (above : List Statement) (bytes : List ℕ) → AreBare above → AreBare (RowLine bytes ∷ above)
row_bare above bytes b =
    record { of_tasks = b.of_tasks; tasks = b.tasks; names = b.names; names_without_slot = b.names_without_slot; pairs = b.pairs; supers = b.supers; hooks = b.hooks; group = b.group; calls_in_task = b.calls_in_task; calls_before_group = b.calls_before_group; calls = b.calls; groups = b.groups }

pattern_bare : (above : List Statement) (name words : List ℕ) → AreBare above → AreBare (PatternLine name words ∷ above)
pattern_bare above name words b =
    record { of_tasks = b.of_tasks; tasks = b.tasks; names = b.names; names_without_slot = b.names_without_slot; pairs = b.pairs; supers = b.supers; hooks = b.hooks; group = b.group; calls_in_task = b.calls_in_task; calls_before_group = b.calls_before_group; calls = b.calls; groups = b.groups }

-- Good lines are bare as long as no task has begun.
pub bare : (s : Setting) (above : List Statement) → AreGoodLines s above → has_begun (told above).section ≡ false → AreBare above
bare s [] g n =
    record { of_tasks = refl; tasks = refl; names = refl; names_without_slot = refl; pairs = refl; supers = refl; hooks = refl; group = refl; calls_in_task = refl; calls_before_group = refl; calls = refl; groups = refl }
bare s (LayersLine ∷ above) g n = layers_bare above (bare s above g.1 n)
bare s (ScreenLine w h d ∷ above) g n =
    screen_bare above w h d (bare s above g.1 (ap has_begun (in_screen (told above).section (here s above (ScreenLine w h d) g).1)))
bare s (GlyphLine code rows ∷ above) g n = glyph_bare above code rows (bare s above g.1 n)
bare s (BitmapLine name w h d ∷ above) g n = bitmap_bare above name w h d (bare s above g.1 n)
bare s (RowLine bytes ∷ above) g n = row_bare above bytes (bare s above g.1 n)
bare s (PatternLine name words ∷ above) g n = pattern_bare above name words (bare s above g.1 n)
bare s (TaskLine name ∷ above) g n = absurd (true≢false n)
bare s (EndLine ∷ above) g n = absurd (true≢false n)
bare s (OrderLine ∷ above) g n = absurd (true≢false n)
bare s (ReportLine ∷ above) g n = absurd (true≢false n)
bare s (NumbersLine zs ∷ above) g n = absurd (both_begun (told above).section (numbers_begun (told above).section (here s above (NumbersLine zs) g).1) n)
bare s (CallLine layers act ∷ above) g n = absurd (both_begun (told above).section (calls_begun (told above).section (here s above (CallLine layers act) g).1) n)
bare s (LockLine name ∷ above) g n = absurd (both_begun (told above).section (calls_begun (told above).section (here s above (LockLine name) g).1) n)
bare s (UnlockLine name ∷ above) g n = absurd (both_begun (told above).section (calls_begun (told above).section (here s above (UnlockLine name) g).1) n)
bare s (HoldLine ∷ above) g n = absurd (both_begun (told above).section (calls_begun (told above).section (here s above HoldLine g).1) n)
bare s (NameWithoutSlot name ∷ above) g n = absurd (both_begun (told above).section (calls_begun (told above).section (here s above (NameWithoutSlot name) g).1) n)
bare s (PairMade outer inner ∷ above) g n = absurd (both_begun (told above).section (calls_begun (told above).section (here s above (PairMade outer inner) g).1) n)
bare s (ReleaseLine ∷ above) g n = absurd (both_begun (told above).section (calls_begun (told above).section (here s above ReleaseLine g).1) n)

-- the section in a script alone: an order and a report aren't there
abbrev pub section_alone : Section → Section
section_alone ScreenIsDue = ScreenIsDue
section_alone AssetsAreDue = AssetsAreDue
section_alone CallsAreDue = CallsAreDue
section_alone TasksAreDue = TasksAreDue
section_alone NumbersAreDue = TasksAreDue
section_alone NothingIsDue = TasksAreDue

-- other lines that tell the same, but for an order and a report, and no pattern
pub record AreAlike (above new : List Statement) : Type 0 where
  pub version : (told new).version ≡ (told above).version
  pub section : (told new).section ≡ section_alone (told above).section
  pub due : (told new).rows_due ≡ 0
  pub width : (told new).width ≡ (told above).width
  pub height : (told new).height ≡ (told above).height
  pub depth : (told new).depth ≡ (told above).depth
  pub bitmap_names : (told new).bitmap_names ≡ (told above).bitmap_names
  pub patterns : (told new).pattern_names ≡ []
  pub glyphs : (code : ℕ) → 32 ≤ code → code ≤ 126 → (told new).glyphs code ≡ (told above).glyphs code
  pub bitmaps : (told new).bitmaps [] ≡ (told above).bitmaps []
  pub tasks : (told new).tasks ≡ (told above).tasks
  pub names : (told new).names ≡ (told above).names
  pub names_without_slot : (told new).names_without_slot ≡ []
  pub pairs : (told new).pairs ≡ (told above).pairs
  pub supers : (told new).supers ≡ (told above).supers
  pub hooks : (told new).names_hook ≡ (told above).names_hook
  pub group : (told new).group ≡ (told above).group
  pub calls_in_task : (told new).calls_in_task ≡ (told above).calls_in_task
  pub calls_before_group : (told new).calls_before_group ≡ (told above).calls_before_group
  pub calls : (told new).calls ≡ (told above).calls
  pub groups : (told new).groups ≡ (told above).groups

-- a base is alike bare lines
base_alike : (above base : List Statement) → (told above).section ≡ AssetsAreDue → AreBare above → IsBaseOf above base → AreAlike above base
base_alike above base c n b =
    record {
      version = b.version;
      section = b.section ∙ ap section_alone (sym c);
      due = b.due;
      width = b.width;
      height = b.height;
      depth = b.depth;
      bitmap_names = b.bitmap_names;
      patterns = b.patterns;
      glyphs = b.glyphs;
      bitmaps = b.bitmaps;
      tasks = b.tasks ∙ sym n.tasks;
      names = b.names ∙ sym n.names;
      names_without_slot = b.names_without_slot;
      pairs = b.pairs ∙ sym n.pairs;
      supers = b.supers ∙ sym n.supers;
      hooks = b.hooks ∙ sym n.hooks;
      group = b.group ∙ sym n.group;
      calls_in_task = b.calls_in_task ∙ sym n.calls_in_task;
      calls_before_group = b.calls_before_group ∙ sym n.calls_before_group;
      calls = b.calls ∙ sym n.calls;
      groups = b.groups ∙ sym n.groups;
    }

-- the call of a line below lines that tell of the same names
pub same_call : (above new : List Statement) (layers : List (List ℕ)) (act : Act) → AreAlike above new → call_below (told new) layers act ≡ call_below (told above) layers act
same_call above new layers act a =
    ap (λ (ns : List (List ℕ)). spelled_call (told new).bitmap_names act (map (place_among (and_names ns layers)) layers)) a.names
    ∙ ap (λ (bs : List (List ℕ)). spelled_call bs act (map (place_among (and_names (told above).names layers)) layers)) a.bitmap_names

-- the group of a task below such lines
same_group : (above new : List Statement) (hold : Hold) (count : ℕ → ℕ) → AreAlike above new → group_from (told new) hold (count (told new).calls_in_task) ≡ group_from (told above) hold (count (told above).calls_in_task)
same_group above new hold count a =
    ap (λ (n : ℕ). group_from (told new) hold (count n)) a.calls_in_task ∙ ap (λ (n : ℕ). record { first = n; last = count (told above).calls_in_task - 1; hold = hold }) a.calls_before_group

-- the same of one that ends on a layer
same_slot_group : (above new : List Statement) (name : List ℕ) (count : ℕ → ℕ) → AreAlike above new → group_from (told new) (Slot (place_among (told new).names name)) (count (told new).calls_in_task) ≡ group_from (told above) (Slot (place_among (told above).names name)) (count (told above).calls_in_task)
same_slot_group above new name count a =
    ap (λ (ns : List (List ℕ)). group_from (told new) (Slot (place_among ns name)) (count (told new).calls_in_task)) a.names ∙ same_group above new (Slot (place_among (told above).names name)) count a

-- a list's last one with the same put at its end
onto_same : {A : Type 0} (a b : A) (xs ys : List (List A)) → a ≡ b → xs ≡ ys → onto_last a xs ≡ onto_last b ys
onto_same a b xs ys e h = ap (λ c. onto_last c xs) e ∙ ap (onto_last b) h

-- A line of tasks below such lines: notion by notion.
module _ (above new : List Statement) (a : AreAlike above new) where
  -- the section
  more_section : (f : Statement) → is_of_tasks f ≡ true → (told (f ∷ new)).section ≡ section_alone (told (f ∷ above)).section
  more_section (ScreenLine w h d) t = refl
  more_section (TaskLine name) t = refl
  more_section EndLine t = refl
  more_section OrderLine t = absurd (false≢true t)
  more_section ReportLine t = absurd (false≢true t)
  more_section f t = a.section

  -- the version
  more_version : (f : Statement) → (told (f ∷ new)).version ≡ (told (f ∷ above)).version
  more_version LayersLine = refl
  more_version (ScreenLine w h d) = ap version_at_screen a.version
  more_version f = a.version

  -- no rows are due
  more_due : (f : Statement) → is_of_tasks f ≡ true → (told (f ∷ new)).rows_due ≡ 0
  more_due (BitmapLine name w h d) t = absurd (false≢true t)
  more_due (RowLine bytes) t = absurd (false≢true t)
  more_due f t = a.due

  -- the screen's sizes
  more_width : (f : Statement) → (told (f ∷ new)).width ≡ (told (f ∷ above)).width
  more_width (ScreenLine w h d) = refl
  more_width f = a.width

  more_height : (f : Statement) → (told (f ∷ new)).height ≡ (told (f ∷ above)).height
  more_height (ScreenLine w h d) = refl
  more_height f = a.height

  more_depth : (f : Statement) → (told (f ∷ new)).depth ≡ (told (f ∷ above)).depth
  more_depth (ScreenLine w h d) = refl
  more_depth f = a.depth

  -- the bitmaps' names
  more_bitmap_names : (f : Statement) → (told (f ∷ new)).bitmap_names ≡ (told (f ∷ above)).bitmap_names
  more_bitmap_names (BitmapLine name w h d) = ap (λ names. names ++ name ∷ []) a.bitmap_names
  more_bitmap_names f = a.bitmap_names

  -- no pattern
  more_patterns : (f : Statement) → is_of_tasks f ≡ true → (told (f ∷ new)).pattern_names ≡ []
  more_patterns (PatternLine name words) t = absurd (false≢true t)
  more_patterns f t = a.patterns

  -- the glyphs
  more_glyphs : (f : Statement) (code : ℕ) → 32 ≤ code → code ≤ 126 → (told (f ∷ new)).glyphs code ≡ (told (f ∷ above)).glyphs code
  more_glyphs (GlyphLine c rows) code low high = ap (cond (c == code) rows) (a.glyphs code low high)
  more_glyphs f code low high = a.glyphs code low high

  -- the bitmaps
  more_bitmaps : (f : Statement) → is_of_tasks f ≡ true → (told (f ∷ new)).bitmaps [] ≡ (told (f ∷ above)).bitmaps []
  more_bitmaps (BitmapLine name w h d) t = absurd (false≢true t)
  more_bitmaps (RowLine bytes) t = absurd (false≢true t)
  more_bitmaps f t = a.bitmaps

  -- the tasks' names
  more_tasks : (f : Statement) → (told (f ∷ new)).tasks ≡ (told (f ∷ above)).tasks
  more_tasks (TaskLine name) = ap (λ names. names ++ name ∷ []) a.tasks
  more_tasks f = a.tasks

  -- the layers' names
  more_names : (f : Statement) → (told (f ∷ new)).names ≡ (told (f ∷ above)).names
  more_names (CallLine layers act) = ap (λ names. and_names names layers) a.names
  more_names (LockLine name) = ap (λ names. and_name names name) a.names
  more_names (UnlockLine name) = ap (λ names. and_name names name) a.names
  more_names f = a.names

  -- no name stands alone, and the windows of two layers
  more_seen : (f : Statement) → is_of_tasks f ≡ true → (told (f ∷ new)).names_without_slot ≡ []
  more_seen (NameWithoutSlot name) t = absurd (false≢true t)
  more_seen f t = a.names_without_slot

  more_pairs : (f : Statement) → (told (f ∷ new)).pairs ≡ (told (f ∷ above)).pairs
  more_pairs (PairMade outer inner) = ap (λ pairs. pairs ++ record { outer = outer; inner = inner } ∷ []) a.pairs
  more_pairs f = a.pairs

  -- how many lines ask for a super-bitmap layer, and the hooks that are named
  more_supers : (f : Statement) → (told (f ∷ new)).supers ≡ (told (f ∷ above)).supers
  more_supers (CallLine layers act) = ap (λ n. cond (makes_super (CallLine layers act)) 1 0 + n) a.supers
  more_supers f = a.supers

  more_hooks : (f : Statement) → (told (f ∷ new)).names_hook ≡ (told (f ∷ above)).names_hook
  more_hooks (CallLine layers act) = ap (and_hook (hook_on (CallLine layers act))) a.hooks
  more_hooks f = a.hooks

  -- the group that is open
  more_group : (f : Statement) → (told (f ∷ new)).group ≡ (told (f ∷ above)).group
  more_group (LockLine name) = refl
  more_group (UnlockLine name) = refl
  more_group HoldLine = refl
  more_group ReleaseLine = refl
  more_group (CallLine layers act) = ap (left_open_by layers act) a.group
  more_group f = a.group

  -- the nearest task's calls so far
  more_so_far : (f : Statement) → (told (f ∷ new)).calls_in_task ≡ (told (f ∷ above)).calls_in_task
  more_so_far (TaskLine name) = refl
  more_so_far (CallLine layers act) = ap (λ n. n + 1) a.calls_in_task
  more_so_far f = a.calls_in_task

  -- where the open group began
  more_began : (f : Statement) → (told (f ∷ new)).calls_before_group ≡ (told (f ∷ above)).calls_before_group
  more_began (LockLine name) = a.calls_in_task
  more_began HoldLine = a.calls_in_task
  more_began (CallLine layers (BareAct RefreshVerb)) = a.calls_in_task
  more_began (CallLine layers act) = a.calls_before_group
  more_began f = a.calls_before_group

  -- each task's calls
  more_calls : (f : Statement) → (told (f ∷ new)).calls ≡ (told (f ∷ above)).calls
  more_calls (TaskLine name) = ap (λ lists. lists ++ [] ∷ []) a.calls
  more_calls (CallLine layers act) = onto_same _ _ _ _ (same_call above new layers act a) a.calls
  more_calls f = a.calls

  -- each task's groups
  more_groups : (f : Statement) → (told (f ∷ new)).groups ≡ (told (f ∷ above)).groups
  more_groups (TaskLine name) = ap (λ lists. lists ++ [] ∷ []) a.groups
  more_groups (UnlockLine name) = onto_same _ _ _ _ (same_slot_group above new name (λ n. n) a) a.groups
  more_groups ReleaseLine = onto_same _ _ _ _ (same_group above new AllLayers (λ n. n) a) a.groups
  more_groups (CallLine [] (EndRefreshAct full)) = a.groups
  more_groups (CallLine (l ∷ []) (EndRefreshAct full)) = onto_same _ _ _ _ (same_slot_group above new l (λ n. n + 1) a) a.groups
  more_groups (CallLine (l ∷ m ∷ ms) (EndRefreshAct full)) = a.groups
  more_groups (CallLine [] act) = a.groups
  more_groups (CallLine (l ∷ []) act) = a.groups
  more_groups (CallLine (l ∷ m ∷ ms) act) = a.groups
  more_groups f = a.groups

  -- all together
  pub alike_more : (f : Statement) → is_of_tasks f ≡ true → AreAlike (f ∷ above) (f ∷ new)
  alike_more f t =
      record {
        version = more_version f;
        section = more_section f t;
        due = more_due f t;
        width = more_width f;
        height = more_height f;
        depth = more_depth f;
        bitmap_names = more_bitmap_names f;
        patterns = more_patterns f t;
        glyphs = more_glyphs f;
        bitmaps = more_bitmaps f t;
        tasks = more_tasks f;
        names = more_names f;
        names_without_slot = more_seen f t;
        pairs = more_pairs f;
        supers = more_supers f;
        hooks = more_hooks f;
        group = more_group f;
        calls_in_task = more_so_far f;
        calls_before_group = more_began f;
        calls = more_calls f;
        groups = more_groups f;
      }

-- the line stands after all glyphs, bitmaps and patterns
abbrev pub is_behind : Statement → Bool
is_behind LayersLine = false
is_behind (ScreenLine w h d) = false
is_behind (GlyphLine code rows) = false
is_behind (BitmapLine name w h d) = false
is_behind (RowLine bytes) = false
is_behind (PatternLine name words) = false
is_behind f = true

-- without such a line the lines have the same base
pub base_below : (f : Statement) (above base : List Statement) → is_behind f ≡ true → IsBaseOf (f ∷ above) base → IsBaseOf above base
base_below LayersLine above base t b = absurd (false≢true t)
base_below (ScreenLine w h d) above base t b = absurd (false≢true t)
base_below (GlyphLine code rows) above base t b = absurd (false≢true t)
base_below (BitmapLine name w h d) above base t b = absurd (false≢true t)
base_below (RowLine bytes) above base t b = absurd (false≢true t)
base_below (PatternLine name words) above base t b = absurd (false≢true t)
base_below f above base t b =
    record {
      version = b.version;
      section = b.section;
      due = b.due;
      width = b.width;
      height = b.height;
      depth = b.depth;
      bitmap_names = b.bitmap_names;
      patterns = b.patterns;
      glyphs = b.glyphs;
      bitmaps = b.bitmaps;
      tasks = b.tasks;
      names = b.names;
      names_without_slot = b.names_without_slot;
      pairs = b.pairs;
      supers = b.supers;
      hooks = b.hooks;
      group = b.group;
      calls_in_task = b.calls_in_task;
      calls_before_group = b.calls_before_group;
      calls = b.calls;
      groups = b.groups;
    }

-- an order, its numbers, a report and a name that stands alone tell nothing of tasks
abbrev is_of_end : Statement → Bool
is_of_end OrderLine = true
is_of_end (NumbersLine zs) = true
is_of_end ReportLine = true
is_of_end (NameWithoutSlot name) = true
is_of_end f = false

alike_behind : (above new : List Statement) (f : Statement) → is_of_end f ≡ true → section_alone (told (f ∷ above)).section ≡ section_alone (told above).section → AreAlike above new → AreAlike (f ∷ above) new
alike_behind above new LayersLine t c a = absurd (false≢true t)
alike_behind above new (ScreenLine w h d) t c a = absurd (false≢true t)
alike_behind above new (GlyphLine code rows) t c a = absurd (false≢true t)
alike_behind above new (BitmapLine name w h d) t c a = absurd (false≢true t)
alike_behind above new (RowLine bytes) t c a = absurd (false≢true t)
alike_behind above new (PatternLine name words) t c a = absurd (false≢true t)
alike_behind above new (TaskLine name) t c a = absurd (false≢true t)
alike_behind above new EndLine t c a = absurd (false≢true t)
alike_behind above new (CallLine layers act) t c a = absurd (false≢true t)
alike_behind above new (LockLine name) t c a = absurd (false≢true t)
alike_behind above new (UnlockLine name) t c a = absurd (false≢true t)
alike_behind above new HoldLine t c a = absurd (false≢true t)
alike_behind above new ReleaseLine t c a = absurd (false≢true t)
alike_behind above new (PairMade outer inner) t c a = absurd (false≢true t)
alike_behind above new f t c a =
    record {
      version = a.version;
      section = a.section ∙ sym c;
      due = a.due;
      width = a.width;
      height = a.height;
      depth = a.depth;
      bitmap_names = a.bitmap_names;
      patterns = a.patterns;
      glyphs = a.glyphs;
      bitmaps = a.bitmaps;
      tasks = a.tasks;
      names = a.names;
      names_without_slot = a.names_without_slot;
      pairs = a.pairs;
      supers = a.supers;
      hooks = a.hooks;
      group = a.group;
      calls_in_task = a.calls_in_task;
      calls_before_group = a.calls_before_group;
      calls = a.calls;
      groups = a.groups;
    }

-- where numbers are due, the screen stands above
pub numbers_screen : (c : Section) → are_numbers_due c ≡ true → has_screen c ≡ true
numbers_screen c e = ap has_screen (in_numbers c e)

-- where lines of a task or of its end stand, it does too
pub calls_screen : (c : Section) → are_calls_due c ≡ true → has_screen c ≡ true
calls_screen c e = ap has_screen (in_calls c e)

tasks_screen : (c : Section) → are_tasks_due c ≡ true → has_screen c ≡ true
tasks_screen c e = ap has_screen (in_tasks c e)

-- so it does where an order or a report begins
pub order_screen : (s : Setting) (above : List Statement) → AreGoodLines s (OrderLine ∷ above) → has_screen (told above).section ≡ true
order_screen s above g = tasks_screen (told above).section (and_parts (are_tasks_due (told above).section) _ (here s above OrderLine g).1).0

pub report_screen : (s : Setting) (above : List Statement) → AreGoodLines s (ReportLine ∷ above) → has_screen (told above).section ≡ true
report_screen s above g = tasks_screen (told above).section (and_parts (are_tasks_due (told above).section) _ (here s above ReportLine g).1).0

-- Where no task has begun, the base alone is alike the lines above.
pub assets_alike : (s : Setting) (above base : List Statement) → AreGoodLines s above → (told above).section ≡ AssetsAreDue → IsBaseOf above base → AreAlike above (filter is_of_tasks above ++ base)
assets_alike s above base g c b =
    let n = bare s above g (ap has_begun c) in
    subst (λ (fs : List Statement). AreAlike above (fs ++ base)) (sym n.of_tasks) (base_alike above base c n b)

-- The lines of tasks over a base are alike the good lines below the screen.
pub alike : (s : Setting) (above base : List Statement) → AreGoodLines s above → has_screen (told above).section ≡ true → IsBaseOf above base → AreAlike above (filter is_of_tasks above ++ base)
alike s [] base g e b = absurd (false≢true e)
alike s (LayersLine ∷ above) base g e b = absurd (true≢false (sym e ∙ ap has_screen (version_first s above g)))
alike s (ScreenLine w h d ∷ above) base g e b = assets_alike s (ScreenLine w h d ∷ above) base g refl b
alike s (GlyphLine code rows ∷ above) base g e b =
    assets_alike s (GlyphLine code rows ∷ above) base g (in_assets (told above).section (here s above (GlyphLine code rows) g).1) b
alike s (BitmapLine name w h d ∷ above) base g e b =
    assets_alike s (BitmapLine name w h d ∷ above) base g (in_assets (told above).section (here s above (BitmapLine name w h d) g).1) b
alike s (RowLine bytes ∷ above) base g e b =
    assets_alike s (RowLine bytes ∷ above) base g (in_assets (told above).section (rows_in_assets s above g.1 (here s above (RowLine bytes) g).0)) b
alike s (PatternLine name words ∷ above) base g e b =
    assets_alike s (PatternLine name words ∷ above) base g (in_assets (told above).section (here s above (PatternLine name words) g).1) b
alike s (TaskLine name ∷ above) base g e b =
    alike_more above _ (alike s above base g.1 (in_assets_or_tasks (told above).section (here s above (TaskLine name) g).1) (base_below (TaskLine name) above base refl b)) (TaskLine name) refl
alike s (EndLine ∷ above) base g e b =
    alike_more above _ (alike s above base g.1 (calls_screen (told above).section (here s above EndLine g).1) (base_below EndLine above base refl b)) EndLine refl
alike s (OrderLine ∷ above) base g e b =
    let due = (and_parts (are_tasks_due (told above).section) _ (here s above OrderLine g).1).0 in
    alike_behind above _ OrderLine refl (sym (ap section_alone (in_tasks (told above).section due))) (alike s above base g.1 (order_screen s above g) (base_below OrderLine above base refl b))
alike s (NumbersLine zs ∷ above) base g e b =
    alike_behind above _ (NumbersLine zs) refl refl (alike s above base g.1 (numbers_screen (told above).section (here s above (NumbersLine zs) g).1) (base_below (NumbersLine zs) above base refl b))
alike s (ReportLine ∷ above) base g e b =
    let due = (and_parts (are_tasks_due (told above).section) _ (here s above ReportLine g).1).0 in
    alike_behind above _ ReportLine refl (sym (ap section_alone (in_tasks (told above).section due))) (alike s above base g.1 (report_screen s above g) (base_below ReportLine above base refl b))
alike s (CallLine layers act ∷ above) base g e b =
    alike_more above _ (alike s above base g.1 (calls_screen (told above).section (here s above (CallLine layers act) g).1) (base_below (CallLine layers act) above base refl b)) (CallLine layers act) refl
alike s (LockLine name ∷ above) base g e b =
    alike_more above _ (alike s above base g.1 (calls_screen (told above).section (here s above (LockLine name) g).1) (base_below (LockLine name) above base refl b)) (LockLine name) refl
alike s (UnlockLine name ∷ above) base g e b =
    alike_more above _ (alike s above base g.1 (calls_screen (told above).section (here s above (UnlockLine name) g).1) (base_below (UnlockLine name) above base refl b)) (UnlockLine name) refl
alike s (HoldLine ∷ above) base g e b =
    alike_more above _ (alike s above base g.1 (calls_screen (told above).section (here s above HoldLine g).1) (base_below HoldLine above base refl b)) HoldLine refl
alike s (ReleaseLine ∷ above) base g e b =
    alike_more above _ (alike s above base g.1 (calls_screen (told above).section (here s above ReleaseLine g).1) (base_below ReleaseLine above base refl b)) ReleaseLine refl
alike s (NameWithoutSlot name ∷ above) base g e b =
    alike_behind above _ (NameWithoutSlot name) refl refl (alike s above base g.1 (calls_screen (told above).section (here s above (NameWithoutSlot name) g).1) (base_below (NameWithoutSlot name) above base refl b))
alike s (PairMade outer inner ∷ above) base g e b =
    alike_more above _ (alike s above base g.1 (calls_screen (told above).section (here s above (PairMade outer inner) g).1) (base_below (PairMade outer inner) above base refl b)) (PairMade outer inner) refl
