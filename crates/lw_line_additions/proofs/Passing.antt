-- Lines that leave what the reader has read: of glyphs, bitmaps and patterns, or of tasks.
use Rattle.std.proofs.Common.{◌≡◌, ℕ, ◌==◌, Bool, true, false, List, ◌∷◌, Result, Ok, Err, OnOk, ℤ, refl, sym, subst, ◌∙◌}
use Rattle.lw_grammar.specs.Statements.{Statement, LayersLine, ScreenLine, GlyphLine, BitmapLine, RowLine, PatternLine, TaskLine, EndLine, OrderLine, NumbersLine, ReportLine, CallLine, LockLine, UnlockLine, HoldLine, ReleaseLine, NameWithoutSlot, PairMade}
use Rattle.lw_grammar.specs.Told.{told}
use Rattle.lw_grammar.specs.Script.{Setting}
use Rattle.lw_statements.specs.declared.section.Section.{Section}
use Rattle.lw_statements.specs.SectionMeaning.{section_meaning}
use Rattle.lw_reader.specs.declared.state.AssetsRead.{AssetsRead}
use Rattle.lw_reader.specs.declared.state.TasksRead.{TasksRead}
use Rattle.lw_reader.specs.declared.state.Reader.{Reader}
use Rattle.lw_reader.specs.Represents.{Represents, AssetsRepresent, TasksRepresent}
use Rattle.std.proofs.lemmas.Bool.{eqb-true, false≢true}

-- the line is no glyph, no bitmap, no row and no pattern
abbrev pub leaves_assets : Statement → Bool
leaves_assets (GlyphLine code rows) = false
leaves_assets (BitmapLine name w h d) = false
leaves_assets (RowLine bytes) = false
leaves_assets (PatternLine name words) = false
leaves_assets f = true

-- the line begins or ends no task or group, is no call, and tells of no name and no window
abbrev pub leaves_tasks : Statement → Bool
leaves_tasks (TaskLine name) = false
leaves_tasks (CallLine layers act) = false
leaves_tasks (LockLine name) = false
leaves_tasks (UnlockLine name) = false
leaves_tasks HoldLine = false
leaves_tasks ReleaseLine = false
leaves_tasks (NameWithoutSlot name) = false
leaves_tasks (PairMade outer inner) = false
leaves_tasks f = true

-- the line tells no version, is no screen, no numbers, and begins or ends no task, order or report
abbrev pub leaves_rest : Statement → Bool
leaves_rest LayersLine = false
leaves_rest (ScreenLine w h d) = false
leaves_rest (TaskLine name) = false
leaves_rest EndLine = false
leaves_rest OrderLine = false
leaves_rest ReportLine = false
leaves_rest (NumbersLine zs) = false
leaves_rest f = true

-- no row is due
pub none_due : (s : Setting) (r : Reader) (above : List Statement) → Represents s r above → ((told above).rows_due == 0) ≡ true → r.assets.due ≡ 0
none_due s r above k e = k.assets.due ∙ eqb-true _ _ e

-- glyphs, bitmaps and patterns below such a line
pub assets_pass : (a : AssetsRead) (above : List Statement) (f : Statement) → leaves_assets f ≡ true → AssetsRepresent a above → AssetsRepresent a (f ∷ above)
assets_pass a above (GlyphLine code rows) e k = absurd (false≢true e)
assets_pass a above (BitmapLine name w h depth) e k = absurd (false≢true e)
assets_pass a above (RowLine bytes) e k = absurd (false≢true e)
assets_pass a above (PatternLine name words) e k = absurd (false≢true e)
assets_pass a above f e k =
    record {
      has_glyph = k.has_glyph;
      glyphs = k.glyphs;
      names = k.names;
      width = k.width;
      narrow = k.narrow;
      due = k.due;
      begun = k.begun;
      bitmaps = k.bitmaps;
      pattern_names = k.pattern_names;
      patterns = k.patterns;
    }

-- tasks below such a line
pub tasks_pass : (t : TasksRead) (above : List Statement) (f : Statement) → leaves_tasks f ≡ true → TasksRepresent t above → TasksRepresent t (f ∷ above)
tasks_pass t above (TaskLine name) e k = absurd (false≢true e)
tasks_pass t above (CallLine layers act) e k = absurd (false≢true e)
tasks_pass t above (LockLine name) e k = absurd (false≢true e)
tasks_pass t above (UnlockLine name) e k = absurd (false≢true e)
tasks_pass t above HoldLine e k = absurd (false≢true e)
tasks_pass t above ReleaseLine e k = absurd (false≢true e)
tasks_pass t above (NameWithoutSlot name) e k = absurd (false≢true e)
tasks_pass t above (PairMade outer inner) e k = absurd (false≢true e)
tasks_pass t above f e k =
    record {
      tasks = k.tasks;
      names = k.names;
      names_without_slot = k.names_without_slot;
      pairs = k.pairs;
      supers = k.supers;
      names_hook = k.names_hook;
      group = k.group;
      calls_before_group = k.calls_before_group;
      calls_in_task = k.calls_in_task;
      calls = k.calls;
      groups = k.groups;
    }

-- what stands after a step that was done
pub on_done : {A E : Type 0} (r : Result A E) (P Q : Type 0) → (P → Q) → OnOk r P → OnOk r Q
on_done (Ok a) P Q f h = f h
on_done (Err e) P Q f h = tt

-- the reader below a line that changes its glyphs, bitmaps and patterns alone, or its tasks alone
pub with_assets : (s : Setting) (r : Reader) (above : List Statement) (f : Statement) (a : AssetsRead) → leaves_rest f ≡ true → leaves_tasks f ≡ true → Represents s r above → AssetsRepresent a (f ∷ above) → Represents s (record r { assets = a }) (f ∷ above)
with_assets s r above LayersLine a e t k new = absurd (false≢true e)
with_assets s r above (ScreenLine w h d) a e t k new = absurd (false≢true e)
with_assets s r above (TaskLine name) a e t k new = absurd (false≢true e)
with_assets s r above EndLine a e t k new = absurd (false≢true e)
with_assets s r above OrderLine a e t k new = absurd (false≢true e)
with_assets s r above ReportLine a e t k new = absurd (false≢true e)
with_assets s r above (NumbersLine zs) a e t k new = absurd (false≢true e)
with_assets s r above f a e t k new =
    record {
      hooks = k.hooks;
      form = k.form;
      version = k.version;
      section = k.section;
      width = k.width;
      height = k.height;
      depth = k.depth;
      assets = new;
      tasks = tasks_pass r.tasks above f t k.tasks;
      order = k.order;
    }

pub with_tasks : (s : Setting) (r : Reader) (above : List Statement) (f : Statement) (t : TasksRead) → leaves_rest f ≡ true → leaves_assets f ≡ true → Represents s r above → TasksRepresent t (f ∷ above) → Represents s (record r { tasks = t }) (f ∷ above)
with_tasks s r above LayersLine t e a k new = absurd (false≢true e)
with_tasks s r above (ScreenLine w h d) t e a k new = absurd (false≢true e)
with_tasks s r above (TaskLine name) t e a k new = absurd (false≢true e)
with_tasks s r above EndLine t e a k new = absurd (false≢true e)
with_tasks s r above OrderLine t e a k new = absurd (false≢true e)
with_tasks s r above ReportLine t e a k new = absurd (false≢true e)
with_tasks s r above (NumbersLine zs) t e a k new = absurd (false≢true e)
with_tasks s r above f t e a k new =
    record {
      hooks = k.hooks;
      form = k.form;
      version = k.version;
      section = k.section;
      width = k.width;
      height = k.height;
      depth = k.depth;
      assets = assets_pass r.assets above f a k.assets;
      tasks = new;
      order = k.order;
    }

-- the reader below a line that tells nothing but another section
abbrev pub turned_to : Section → Reader → Reader
turned_to section r = record r { section = section }

pub turned : (s : Setting) (r : Reader) (above : List Statement) (f : Statement) (section : Section) → section_meaning section ≡ (told (f ∷ above)).section → ((told (f ∷ above)).version ≡ (told above).version) × ((told (f ∷ above)).width ≡ (told above).width) × ((told (f ∷ above)).height ≡ (told above).height) × ((told (f ∷ above)).depth ≡ (told above).depth) × ((told (f ∷ above)).order ≡ (told above).order) → leaves_assets f ≡ true → leaves_tasks f ≡ true → Represents s r above → Represents s (turned_to section r) (f ∷ above)
turned s r above f section turns same a t k =
    record {
      hooks = k.hooks;
      form = k.form;
      version = k.version ∙ sym same.0;
      section = turns;
      width = k.width ∙ sym same.1;
      height = k.height ∙ sym same.2;
      depth = k.depth ∙ sym same.3;
      assets = assets_pass r.assets above f a k.assets;
      tasks = tasks_pass r.tasks above f t k.tasks;
      order = k.order ∙ sym same.4;
    }

-- the reader below the line of the version
abbrev pub in_version_2 : Reader → Reader
in_version_2 r = record r { version = 2 }

pub version_told : (s : Setting) (r : Reader) (above : List Statement) → Represents s r above → Represents s (in_version_2 r) (LayersLine ∷ above)
version_told s r above k =
    record {
      hooks = k.hooks;
      form = k.form;
      version = refl;
      section = k.section;
      width = k.width;
      height = k.height;
      depth = k.depth;
      assets = assets_pass r.assets above LayersLine refl k.assets;
      tasks = tasks_pass r.tasks above LayersLine refl k.tasks;
      order = k.order;
    }

-- lines of the same numbers
pub same_screen : (s : Setting) (r : Reader) (above : List Statement) (w h d w' h' d' : ℤ) → w' ≡ w → h' ≡ h → d' ≡ d → Represents s r (ScreenLine w' h' d' ∷ above) → Represents s r (ScreenLine w h d ∷ above)
same_screen s r above w h d w' h' d' a b c k =
    let P : ℤ → Type 0 = λ x. Represents s r (ScreenLine x h' d' ∷ above) in
    let Q : ℤ → Type 0 = λ y. Represents s r (ScreenLine w y d' ∷ above) in
    let R : ℤ → Type 0 = λ z. Represents s r (ScreenLine w h z ∷ above) in
    subst R c (subst Q b (subst P a k))

pub same_bitmap : {A E : Type 0} (done : Result A E) (s : Setting) (r : Reader) (above : List Statement) (name : List ℕ) (w h d w' h' d' : ℤ) → w' ≡ w → h' ≡ h → d' ≡ d → OnOk done (Represents s r (BitmapLine name w' h' d' ∷ above)) → OnOk done (Represents s r (BitmapLine name w h d ∷ above))
same_bitmap done s r above name w h d w' h' d' a b c k =
    let P : ℤ → Type 0 = λ x. OnOk done (Represents s r (BitmapLine name x h' d' ∷ above)) in
    let Q : ℤ → Type 0 = λ y. OnOk done (Represents s r (BitmapLine name w y d' ∷ above)) in
    let R : ℤ → Type 0 = λ z. OnOk done (Represents s r (BitmapLine name w h z ∷ above)) in
    subst R c (subst Q b (subst P a k))
