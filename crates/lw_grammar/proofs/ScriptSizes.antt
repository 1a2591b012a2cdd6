-- What good lines tell of a script's sizes, its counts, its glyphs and its bitmaps.
use Rattle.std.proofs.Common.{◌≡◌, ℕ, zero, suc, ◌+◌, ◌-◌, ◌*◌, ◌≤◌, ◌==◌, Bool, true, false, not, cond, ◌&&◌, ◌||◌, nat_le, nat_lt, List, [], ◌∷◌, ◌++◌, length, map, ℤ, pos, unsigned_abs, Result, Ok, All, refl, sym, ap, subst, ◌∙◌, arith, length-append, suc-mul, zero-mul}
use Rattle.std.specs.List.{list_all, range_with_len, slice_index_or}
use Rattle.lw_region.specs.Rectangle.{within}
use Rattle.lw_planes.specs.Bitmap.{row_bytes}
use Rattle.lw_planes.specs.Sizes.{AreSizes, IsPlanes}
use Rattle.lw_planes.proofs.StorageLaws.{IsPlanes_stored}
use Rattle.lw_grammar.specs.declared.reason.Reason.{Reason}
use Rattle.lw_grammar.specs.declared.form.Form.{Form}
use Rattle.lw_grammar.specs.declared.form.Form.TheVariants.{Plain, Ordered, Audited}
use Rattle.lw_calls.specs.declared.limits.Limits.{Limits}
use Rattle.lw_calls.specs.Limits.{limits_of, task_limit, bitmap_limit}
use Rattle.lw_grammar.specs.Demands.{◌>>=◌, demand}
use Rattle.lw_grammar.specs.Statements.{Statement, LayersLine, ScreenLine, GlyphLine, BitmapLine, RowLine, TaskLine, EndLine, OrderLine, NumbersLine, ReportLine, CallLine, LockLine, UnlockLine, version_at_screen, are_sizes_in_range, bitmap_size_limit, is_line_in_range}
use Rattle.lw_grammar.specs.Told.{Section, ScreenIsDue, AssetsAreDue, CallsAreDue, TasksAreDue, NumbersAreDue, NothingIsDue, Told, hook_on, told}
use Rattle.lw_grammar.specs.Script.{Setting, is_screen_due, are_assets_due, are_calls_due, are_tasks_due, are_numbers_due, is_nothing_due, lacks_name, gives_again, fits_group, pattern_limit, super_limit, are_few, is_no_hook, is_hook_named, has_padding, statement_tested, may_end}
use Rattle.lw_grammar.specs.GoodLines.{IsStatementHere, AreGoodLines}
use Rattle.lw_grammar.proofs.ScriptCalls.{in_range, size_range}
use Rattle.std.proofs.lemmas.Bool.{true≢false, false≢true, not-true, not_from_false, eqb-true, ne_eqb, leb-true, le-leb, lt-ltb, and_parts, and_from}
use Rattle.std.proofs.lemmas.List.Elements.{All-nil, All-cons, All-append, All-push, All-map}

-- each test of a good line's statement
pub record IsStatementTested (s : Setting) (above : List Statement) (f : Statement) : Type 0 where
  pub range : is_line_in_range (told above).version f ≡ true
  pub named : lacks_name (told above).bitmap_names f ≡ false
  pub new : gives_again (told above) f ≡ false
  pub group : fits_group (told above).group (nat_lt (told above).calls_before_group (told above).calls_in_task) f ≡ true
  pub few : are_few (limits_of (told above).version) (told (f ∷ above)) ≡ true
  pub hook : is_no_hook s.hooks (hook_on f) ≡ false
  pub unused : is_hook_named (told above).names_hook (hook_on f) ≡ false
  pub padding : has_padding (told above).row_width f ≡ false

-- a test that was passed holds, and those after it were passed
pub passed : (b : Bool) (r : Reason) (t : Result (Unit {0}) Reason) → (demand b r >>= (λ _. t)) ≡ Ok tt → (b ≡ true) × (t ≡ Ok tt)
passed true r t h = (refl, h)
passed false r t h = absurd (cc)

-- so does the last one
pub passed_last : (b : Bool) (r : Reason) → demand b r ≡ Ok tt → b ≡ true
passed_last true r h = refl
passed_last false r h = absurd (cc)

-- the tests of a statement that has passed them
pub tests_passed : (s : Setting) (above : List Statement) (f : Statement) → statement_tested s (told above) f ≡ Ok tt → IsStatementTested s above f
tests_passed s above f h =
    let a = passed (is_line_in_range (told above).version f) _ _ h in
    let b = passed (not (lacks_name (told above).bitmap_names f)) _ _ a.1 in
    let c = passed (not (gives_again (told above) f)) _ _ b.1 in
    let d = passed (fits_group (told above).group (nat_lt (told above).calls_before_group (told above).calls_in_task) f) _ _ c.1 in
    let e = passed (are_few (limits_of (told above).version) (told (f ∷ above))) _ _ d.1 in
    let g = passed (not (is_no_hook s.hooks (hook_on f))) _ _ e.1 in
    let i = passed (not (is_hook_named (told above).names_hook (hook_on f))) _ _ g.1 in
    let j = passed_last (not (has_padding (told above).row_width f)) _ i.1 in
    record {
      range = a.0;
      named = not-true _ b.0;
      new = not-true _ c.0;
      group = d.0;
      few = e.0;
      hook = not-true _ g.0;
      unused = not-true _ i.0;
      padding = not-true _ j;
    }

-- a test that holds is passed
pass : (b : Bool) (r : Reason) (t : Result (Unit {0}) Reason) → b ≡ true → t ≡ Ok tt → (demand b r >>= (λ _. t)) ≡ Ok tt
pass true r t e h = h
pass false r t e h = absurd (false≢true e)

-- so is the last one
pass_last : (b : Bool) (r : Reason) → b ≡ true → demand b r ≡ Ok tt
pass_last true r e = refl
pass_last false r e = absurd (false≢true e)

-- a statement of which each test holds passes them
pub tests_pass : (s : Setting) (above : List Statement) (f : Statement) → IsStatementTested s above f → statement_tested s (told above) f ≡ Ok tt
tests_pass s above f k =
    pass _ _ _ k.range (pass _ _ _ (not_from_false _ k.named) (pass _ _ _ (not_from_false _ k.new) (pass _ _ _ k.group (pass _ _ _ k.few (pass _ _ _ (not_from_false _ k.hook) (pass _ _ _ (not_from_false _ k.unused) (pass_last _ _ (not_from_false _ k.padding))))))))

-- what the nearest of good lines is good for, and its tests
pub here : (s : Setting) (above : List Statement) (f : Statement) → AreGoodLines s (f ∷ above) → IsStatementHere s above f
here s above f g = g.0.here

pub tests : (s : Setting) (above : List Statement) (f : Statement) → AreGoodLines s (f ∷ above) → IsStatementTested s above f
tests s above f g = tests_passed s above f g.0.tested

-- a fact that is known where a test holds
abbrev pub When : Bool → Type 0 → Type 0
When true P = P
When false P = Unit {0}

pub when : (b : Bool) (P : Type 0) → b ≡ true → When b P → P
when true P e h = h
when false P e h = absurd (false≢true e)

pub unless : (b : Bool) (P : Type 0) → b ≡ false → When b P
unless true P e = absurd (true≢false e)
unless false P e = tt

-- a task has begun
abbrev pub has_begun : Section → Bool
has_begun ScreenIsDue = false
has_begun AssetsAreDue = false
has_begun CallsAreDue = true
has_begun TasksAreDue = true
has_begun NumbersAreDue = true
has_begun NothingIsDue = true

-- the screen line stands above
abbrev pub has_screen : Section → Bool
has_screen ScreenIsDue = false
has_screen AssetsAreDue = true
has_screen CallsAreDue = true
has_screen TasksAreDue = true
has_screen NumbersAreDue = true
has_screen NothingIsDue = true

-- which section a line stands in, by the test for it
pub in_screen : (s : Section) → is_screen_due s ≡ true → s ≡ ScreenIsDue
in_screen ScreenIsDue e = refl
in_screen AssetsAreDue e = absurd (false≢true e)
in_screen CallsAreDue e = absurd (false≢true e)
in_screen TasksAreDue e = absurd (false≢true e)
in_screen NumbersAreDue e = absurd (false≢true e)
in_screen NothingIsDue e = absurd (false≢true e)

pub in_assets : (s : Section) → are_assets_due s ≡ true → s ≡ AssetsAreDue
in_assets ScreenIsDue e = absurd (false≢true e)
in_assets AssetsAreDue e = refl
in_assets CallsAreDue e = absurd (false≢true e)
in_assets TasksAreDue e = absurd (false≢true e)
in_assets NumbersAreDue e = absurd (false≢true e)
in_assets NothingIsDue e = absurd (false≢true e)

pub in_calls : (s : Section) → are_calls_due s ≡ true → s ≡ CallsAreDue
in_calls ScreenIsDue e = absurd (false≢true e)
in_calls AssetsAreDue e = absurd (false≢true e)
in_calls CallsAreDue e = refl
in_calls TasksAreDue e = absurd (false≢true e)
in_calls NumbersAreDue e = absurd (false≢true e)
in_calls NothingIsDue e = absurd (false≢true e)

pub in_tasks : (s : Section) → are_tasks_due s ≡ true → s ≡ TasksAreDue
in_tasks ScreenIsDue e = absurd (false≢true e)
in_tasks AssetsAreDue e = absurd (false≢true e)
in_tasks CallsAreDue e = absurd (false≢true e)
in_tasks TasksAreDue e = refl
in_tasks NumbersAreDue e = absurd (false≢true e)
in_tasks NothingIsDue e = absurd (false≢true e)

pub in_numbers : (s : Section) → are_numbers_due s ≡ true → s ≡ NumbersAreDue
in_numbers ScreenIsDue e = absurd (false≢true e)
in_numbers AssetsAreDue e = absurd (false≢true e)
in_numbers CallsAreDue e = absurd (false≢true e)
in_numbers TasksAreDue e = absurd (false≢true e)
in_numbers NumbersAreDue e = refl
in_numbers NothingIsDue e = absurd (false≢true e)

pub in_assets_or_tasks : (s : Section) → (are_assets_due s || are_tasks_due s) ≡ true → has_screen s ≡ true
in_assets_or_tasks ScreenIsDue e = absurd (false≢true e)
in_assets_or_tasks AssetsAreDue e = refl
in_assets_or_tasks CallsAreDue e = refl
in_assets_or_tasks TasksAreDue e = refl
in_assets_or_tasks NumbersAreDue e = refl
in_assets_or_tasks NothingIsDue e = refl

-- the version stands before the screen
pub version_first : (s : Setting) (above : List Statement) → AreGoodLines s (LayersLine ∷ above) → (told above).section ≡ ScreenIsDue
version_first s above g = in_screen (told above).section (and_parts (is_screen_due (told above).section) _ (here s above LayersLine g).1).0

-- before the first task no layer is named and no call made
record IsUnbegun (above : List Statement) : Type 0 where
  names : (told above).names ≡ []
  calls_in_task : (told above).calls_in_task ≡ 0

unbegun : (s : Setting) (above : List Statement) → AreGoodLines s above → has_begun (told above).section ≡ false → IsUnbegun above
unbegun s [] g n = record { names = refl; calls_in_task = refl }
unbegun s (ScreenLine w h d ∷ above) g n =
    let b = unbegun s above g.1 (ap has_begun (in_screen (told above).section (here s above (ScreenLine w h d) g).1)) in
    record { names = b.names; calls_in_task = b.calls_in_task }
unbegun s (TaskLine name ∷ above) g n = absurd (true≢false n)
unbegun s (EndLine ∷ above) g n = absurd (true≢false n)
unbegun s (OrderLine ∷ above) g n = absurd (true≢false n)
unbegun s (ReportLine ∷ above) g n = absurd (true≢false n)
unbegun s (CallLine layers act ∷ above) g n =
    absurd (true≢false (sym (ap has_begun (in_calls (told above).section (here s above (CallLine layers act) g).1)) ∙ n))
unbegun s (LockLine name ∷ above) g n =
    absurd (true≢false (sym (ap has_begun (in_calls (told above).section (here s above (LockLine name) g).1)) ∙ n))
unbegun s (UnlockLine name ∷ above) g n =
    absurd (true≢false (sym (ap has_begun (in_calls (told above).section (here s above (UnlockLine name) g).1)) ∙ n))
unbegun s (f ∷ above) g n =
    let b = unbegun s above g.1 n in
    record { names = b.names; calls_in_task = b.calls_in_task }

-- the counts of what lines tell, by a version's limits
pub record AreCounted (limits : Limits) (t : Told) : Type 0 where
  pub tasks : length t.tasks ≤ 16
  pub bitmaps : length t.bitmap_names ≤ 16
  pub patterns : length t.pattern_names ≤ 16
  pub names : length t.names ≤ limits.names
  pub supers : t.supers ≤ 16
  pub calls : t.calls_in_task ≤ limits.calls

pub few_counted : (limits : Limits) (t : Told) → are_few limits t ≡ true → AreCounted limits t
few_counted limits t few =
    let halves = and_parts ((nat_le (length t.tasks) task_limit && (nat_le (length t.bitmap_names) bitmap_limit && nat_le (length t.pattern_names) pattern_limit)) && nat_le (length t.names) limits.names) _ few in
    let three = and_parts (nat_le (length t.tasks) task_limit && (nat_le (length t.bitmap_names) bitmap_limit && nat_le (length t.pattern_names) pattern_limit)) _ halves.0 in
    let two = and_parts (nat_le (length t.tasks) task_limit) _ three.0 in
    let assets = and_parts (nat_le (length t.bitmap_names) bitmap_limit) _ two.1 in
    let last = and_parts (nat_le t.supers super_limit) _ halves.1 in
    record {
      tasks = leb-true _ _ two.0;
      bitmaps = leb-true _ _ assets.0;
      patterns = leb-true _ _ assets.1;
      names = leb-true _ _ three.1;
      supers = leb-true _ _ last.0;
      calls = leb-true _ _ last.1;
    }

pub counted_few : (limits : Limits) (t : Told) → AreCounted limits t → are_few limits t ≡ true
counted_few limits t c =
    let assets = and_from _ _ (le-leb (length t.bitmap_names) bitmap_limit c.bitmaps) (le-leb (length t.pattern_names) pattern_limit c.patterns) in
    let three = and_from _ _ (and_from _ _ (le-leb (length t.tasks) task_limit c.tasks) assets) (le-leb (length t.names) limits.names c.names) in
    and_from _ _ three (and_from _ _ (le-leb t.supers super_limit c.supers) (le-leb t.calls_in_task limits.calls c.calls))

-- they stay few in each version where no task has begun
unbegun_counted : (limits other : Limits) (above : List Statement) → AreCounted limits (told above) → IsUnbegun above → AreCounted other (told above)
unbegun_counted limits other above c b =
    let names : length (told above).names ≡ 0 = ap length b.names in
    record {
      tasks = c.tasks;
      bitmaps = c.bitmaps;
      patterns = c.patterns;
      names = omega (arith, names);
      supers = c.supers;
      calls = omega (arith, b.calls_in_task);
    }

-- good lines are few
pub counted : (s : Setting) (above : List Statement) → AreGoodLines s above → AreCounted (limits_of (told above).version) (told above)
counted s [] g =
    record {
      tasks = omega arith;
      bitmaps = omega arith;
      patterns = omega arith;
      names = omega arith;
      supers = omega arith;
      calls = omega arith;
    }
counted s (LayersLine ∷ above) g =
    unbegun_counted (limits_of (told above).version) _ (LayersLine ∷ above) (few_counted _ (told (LayersLine ∷ above)) (tests s above LayersLine g).few) (unbegun s (LayersLine ∷ above) g (ap has_begun (version_first s above g)))
counted s (ScreenLine w h d ∷ above) g =
    unbegun_counted (limits_of (told above).version) _ (ScreenLine w h d ∷ above) (few_counted _ (told (ScreenLine w h d ∷ above)) (tests s above (ScreenLine w h d) g).few) (unbegun s (ScreenLine w h d ∷ above) g refl)
counted s (f ∷ above) g = few_counted (limits_of (told above).version) (told (f ∷ above)) (tests s above f g).few

-- a width and a height up to a limit, and a depth
pub record AreSizesUpTo (limit w h d : ℕ) : Type 0 where
  pub columns : (1 ≤ w) × (w ≤ limit)
  pub rows : (1 ≤ h) × (h ≤ limit)
  pub planes : (1 ≤ d) × (d ≤ 8)

-- three sizes in their ranges
sizes_range : (limit : ℕ) (w h d : ℤ) → are_sizes_in_range limit w h d ≡ true → AreSizesUpTo limit (unsigned_abs w) (unsigned_abs h) (unsigned_abs d)
sizes_range limit w h d e =
    let halves = and_parts (within (pos 1) w (pos limit) && within (pos 1) h (pos limit)) _ e in
    let sides = and_parts (within (pos 1) w (pos limit)) _ halves.0 in
    record { columns = size_range w limit sides.0; rows = size_range h limit sides.1; planes = size_range d 8 halves.1 }

-- lines tell no other version than 2, and 1 at the screen line without it
version_small : (version : ℕ) → version ≤ 2 → (1 ≤ version_at_screen version) × (version_at_screen version ≤ 2)
version_small zero h = (omega arith, omega arith)
version_small (suc version) h =
    let P : Bool → Type 0 = λ none. (1 ≤ cond none 1 (suc version)) × (cond none 1 (suc version) ≤ 2) in
    subst P (sym (ne_eqb (suc version) 0 (λ e. omega arith))) (omega arith, h)

told_small : (above : List Statement) → (told above).version ≤ 2
told_small [] = omega arith
told_small (LayersLine ∷ above) = omega arith
told_small (ScreenLine w h d ∷ above) = (version_small (told above).version (told_small above)).1
told_small (f ∷ above) = told_small above

-- the sizes of a screen in this version
pub record IsScreen (version w h d : ℕ) : Type 0 where
  pub some_version : 1 ≤ version
  pub small_version : version ≤ 2
  pub sizes : AreSizesUpTo (limits_of version).screen w h d

-- below the screen line good lines give the sizes of a screen
pub sized : (s : Setting) (above : List Statement) → AreGoodLines s above → When (has_screen (told above).section) (IsScreen (told above).version (told above).width (told above).height (told above).depth)
sized s [] g = tt
sized s (LayersLine ∷ above) g = unless _ _ (ap has_screen (version_first s above g))
sized s (ScreenLine w h d ∷ above) g =
    let small = version_small (told above).version (told_small above) in
    record { some_version = small.0; small_version = small.1; sizes = sizes_range _ w h d (tests s above (ScreenLine w h d) g).range }
sized s (TaskLine name ∷ above) g =
    when _ _ (in_assets_or_tasks (told above).section (here s above (TaskLine name) g).1) (sized s above g.1)
sized s (EndLine ∷ above) g =
    when _ _ (ap has_screen (in_calls (told above).section (here s above EndLine g).1)) (sized s above g.1)
sized s (OrderLine ∷ above) g =
    when _ _ (ap has_screen (in_tasks (told above).section (and_parts _ _ (here s above OrderLine g).1).0)) (sized s above g.1)
sized s (ReportLine ∷ above) g =
    when _ _ (ap has_screen (in_tasks (told above).section (and_parts _ _ (here s above ReportLine g).1).0)) (sized s above g.1)
sized s (f ∷ above) g = sized s above g.1

-- no task has begun above a screen line, a glyph or a bitmap, and at least one has after a task line
pub begun_tasks : (s : Setting) (above : List Statement) → AreGoodLines s above → cond (has_begun (told above).section) (nat_lt 0 (length (told above).tasks)) (length (told above).tasks == 0) ≡ true
begun_tasks s [] g = refl
begun_tasks s (ScreenLine w h d ∷ above) g =
    let P : Bool → Type 0 = λ b. cond b (nat_lt 0 (length (told above).tasks)) (length (told above).tasks == 0) ≡ true in
    subst P (ap has_begun (in_screen (told above).section (here s above (ScreenLine w h d) g).1)) (begun_tasks s above g.1)
begun_tasks s (TaskLine name ∷ above) g = lt-ltb 0 _ (omega (arith, length-append (told above).tasks (name ∷ [])))
begun_tasks s (EndLine ∷ above) g =
    let P : Section → Type 0 = λ c. cond (has_begun c) (nat_lt 0 (length (told above).tasks)) (length (told above).tasks == 0) ≡ true in
    subst P (in_calls (told above).section (here s above EndLine g).1) (begun_tasks s above g.1)
begun_tasks s (OrderLine ∷ above) g =
    let P : Section → Type 0 = λ c. cond (has_begun c) (nat_lt 0 (length (told above).tasks)) (length (told above).tasks == 0) ≡ true in
    subst P (in_tasks (told above).section (and_parts _ _ (here s above OrderLine g).1).0) (begun_tasks s above g.1)
begun_tasks s (ReportLine ∷ above) g =
    let P : Section → Type 0 = λ c. cond (has_begun c) (nat_lt 0 (length (told above).tasks)) (length (told above).tasks == 0) ≡ true in
    subst P (in_tasks (told above).section (and_parts _ _ (here s above ReportLine g).1).0) (begun_tasks s above g.1)
begun_tasks s (f ∷ above) g = begun_tasks s above g.1

-- a section below which an input may end
pub record MayEnd (c : Section) : Type 0 where
  pub begun : has_begun c ≡ true
  pub screen : has_screen c ≡ true
  pub assets : are_assets_due c ≡ false
  pub calls : are_calls_due c ≡ false

end_by_tasks : (c : Section) → are_tasks_due c ≡ true → MayEnd c
end_by_tasks ScreenIsDue e = absurd (false≢true e)
end_by_tasks AssetsAreDue e = absurd (false≢true e)
end_by_tasks CallsAreDue e = absurd (false≢true e)
end_by_tasks TasksAreDue e = record { begun = refl; screen = refl; assets = refl; calls = refl }
end_by_tasks NumbersAreDue e = absurd (false≢true e)
end_by_tasks NothingIsDue e = absurd (false≢true e)

end_by_numbers : (c : Section) → are_numbers_due c ≡ true → MayEnd c
end_by_numbers ScreenIsDue e = absurd (false≢true e)
end_by_numbers AssetsAreDue e = absurd (false≢true e)
end_by_numbers CallsAreDue e = absurd (false≢true e)
end_by_numbers TasksAreDue e = absurd (false≢true e)
end_by_numbers NumbersAreDue e = record { begun = refl; screen = refl; assets = refl; calls = refl }
end_by_numbers NothingIsDue e = absurd (false≢true e)

end_by_nothing : (c : Section) → is_nothing_due c ≡ true → MayEnd c
end_by_nothing ScreenIsDue e = absurd (false≢true e)
end_by_nothing AssetsAreDue e = absurd (false≢true e)
end_by_nothing CallsAreDue e = absurd (false≢true e)
end_by_nothing TasksAreDue e = absurd (false≢true e)
end_by_nothing NumbersAreDue e = absurd (false≢true e)
end_by_nothing NothingIsDue e = record { begun = refl; screen = refl; assets = refl; calls = refl }

-- where an input may end, its section is one of these
pub whole_ends : (form : Form) (above : List Statement) → may_end form (told above).section ≡ true → MayEnd (told above).section
whole_ends Plain above e = end_by_tasks (told above).section e
whole_ends Ordered above e = end_by_numbers (told above).section e
whole_ends Audited above e = end_by_nothing (told above).section e

-- the rows of a glyph are eight
pub glyph_rows : (s : Setting) (above : List Statement) → AreGoodLines s above → (code : ℕ) → length ((told above).glyphs code) ≡ 8
glyph_rows s [] g code = refl
glyph_rows s (GlyphLine c rows ∷ above) g code = step (c == code) (glyph_rows s above g.1 code)
  where
    step : (t : Bool) → length ((told above).glyphs code) ≡ 8 → length (cond t rows ((told above).glyphs code)) ≡ 8
    step true rest = (here s above (GlyphLine c rows) g).2
    step false rest = rest
glyph_rows s (f ∷ above) g code = glyph_rows s above g.1 code

-- so are those of all glyphs
pub all_glyphs : (s : Setting) (above : List Statement) → AreGoodLines s above → All (λ rows. length rows ≡ 8) (map (λ i. (told above).glyphs (32 + i)) (range_with_len 0 95))
all_glyphs s above g =
    All-map (λ rows. length rows ≡ 8) (λ i. (told above).glyphs (32 + i)) (range_with_len 0 95) (λ k d low. glyph_rows s above g (32 + slice_index_or (range_with_len 0 95) k d))

-- a bitmap's sizes, which a script has
bitmap_sizes : (w h d : ℕ) → AreSizesUpTo bitmap_size_limit w h d → AreSizes w h d
bitmap_sizes w h d s =
    record {
      columns = (s.columns.0, omega (arith, s.columns.1));
      rows = (s.rows.0, omega (arith, s.rows.1));
      planes = s.planes;
    }

-- where no rows are due, none are needed
pub none_due : (above : List Statement) → (told above).rows_due ≡ 0 → 0 ≡ (told above).rows_due * row_bytes (told above).row_width
none_due above e = sym (zero-mul (row_bytes (told above).row_width)) ∙ ap (λ k. k * row_bytes (told above).row_width) (sym e)

-- a row less is due
pub row_less : (due n bytes rows : ℕ) → (due == 0) ≡ false → bytes ≡ n → rows ≡ (due - 1) * n → bytes + rows ≡ due * n
row_less zero n bytes rows e h k = absurd (true≢false e)
row_less (suc due) n bytes rows e h k =
    let less : suc due - 1 ≡ due = omega arith in
    let rest : rows ≡ due * n = rw less at k in
    omega (arith, suc-mul due n)

-- Where no rows are due but those after, the bitmaps above are planes.
pub bitmaps_made : (s : Setting) (above : List Statement) → AreGoodLines s above → (rows : List ℕ) → length rows ≡ (told above).rows_due * row_bytes (told above).row_width → All IsPlanes ((told above).bitmaps rows)
bitmaps_made s [] g rows n = All-nil IsPlanes
bitmaps_made s (BitmapLine name w h d ∷ above) g rows n =
    let sizes = bitmap_sizes _ _ _ (sizes_range bitmap_size_limit w h d (tests s above (BitmapLine name w h d) g).range) in
    let due : (told above).rows_due ≡ 0 = eqb-true _ 0 (here s above (BitmapLine name w h d) g).0 in
    All-push IsPlanes ((told above).bitmaps []) _ (bitmaps_made s above g.1 [] (none_due above due)) (IsPlanes_stored _ _ _ rows (record { sizes = sizes; long = n }))
bitmaps_made s (RowLine bytes ∷ above) g rows n =
    let h = here s above (RowLine bytes) g in
    bitmaps_made s above g.1 (bytes ++ rows) (length-append bytes rows ∙ row_less (told above).rows_due _ _ _ h.0 h.1 n)
bitmaps_made s (f ∷ above) g rows n = bitmaps_made s above g.1 rows n

-- there are as many bitmaps as names of them
pub bitmaps_named : (above : List Statement) (rows : List ℕ) → length ((told above).bitmaps rows) ≡ length (told above).bitmap_names
bitmaps_named [] rows = refl
bitmaps_named (BitmapLine name w h d ∷ above) rows =
    length-append ((told above).bitmaps []) _ ∙ ap (λ k. k + 1) (bitmaps_named above []) ∙ sym (length-append (told above).bitmap_names (name ∷ []))
bitmaps_named (RowLine bytes ∷ above) rows = bitmaps_named above (bytes ++ rows)
bitmaps_named (f ∷ above) rows = bitmaps_named above rows

-- each number of an order is below 16
numbers_small : (zs : List ℤ) → list_all (λ z. within (pos 0) z (pos 15)) zs ≡ true → All (λ task. task ≤ 15) (map unsigned_abs zs)
numbers_small [] h = All-nil (λ task. task ≤ 15)
numbers_small (z ∷ zs) h =
    let halves = and_parts (within (pos 0) z (pos 15)) _ h in
    All-cons (λ task. task ≤ 15) (unsigned_abs z) (map unsigned_abs zs) (in_range z 15 halves.0) (numbers_small zs halves.1)

-- so is each of an order's lines
pub order_small : (s : Setting) (above : List Statement) → AreGoodLines s above → All (λ task. task ≤ 15) (told above).order
order_small s [] g = All-nil (λ task. task ≤ 15)
order_small s (NumbersLine zs ∷ above) g =
    All-append (λ task. task ≤ 15) (told above).order _ (order_small s above g.1) (numbers_small zs (tests s above (NumbersLine zs) g).range)
order_small s (f ∷ above) g = order_small s above g.1
