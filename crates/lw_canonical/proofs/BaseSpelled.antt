-- The version, the screen, the glyphs in order and the bitmaps of good lines, in their one spelling, read as such, and tell of these what
-- the good lines tell.
use Rattle.std.proofs.Common.{◌≡◌, ℕ, zero, suc, ◌+◌, ◌-◌, ◌≤◌, ◌==◌, true, ◌&&◌, ◌⊎◌, inl, inr, List, [], ◌∷◌, replicate, ℤ, pos, unsigned_abs, refl, sym, ap, subst, ◌∙◌, arith}
use Rattle.lw_calls.specs.declared.limits.Limits.{Limits}
use Rattle.lw_calls.specs.Limits.{limits_of}
use Rattle.lw_region.specs.Rectangle.{within}
use Rattle.lw_grammar.specs.Statements.{Statement, LayersLine, ScreenLine, TaskLine, EndLine, OrderLine, ReportLine, version_at_screen, is_line_in_range}
use Rattle.lw_grammar.specs.Told.{ScreenIsDue, nothing_told, told}
use Rattle.lw_grammar.specs.Script.{Setting, is_screen_due, is_nothing_due, are_few, may_end}
use Rattle.lw_grammar.specs.GoodLines.{AreGoodLines}
use Rattle.lw_grammar.specs.Verbs.{verb_of}
use Rattle.lw_canonical.specs.Spelling.{spelled}
use Rattle.lw_canonical.specs.Canonical.{lines_of_version}
use Rattle.lw_grammar.proofs.ScriptOutcome.{rows_in_assets}
use Rattle.lw_grammar.proofs.ScriptSizes.{IsStatementTested, tests_pass, here, tests, When, when, unless, has_screen, sized, in_screen, in_assets_or_tasks, in_calls, in_tasks, version_first, whole_ends, none_due}
use Rattle.lw_canonical.proofs.ReadsAgain.{plain_statements, spelled_again, few_by_bitmaps, isnt_passed}
use Rattle.lw_canonical.proofs.BitmapsKept.{IsBare, bare_kept, IsWithoutBitmaps, kept, glyph_kept, names_kept, due_kept, made_kept}
use Rattle.lw_canonical.proofs.BitmapsSpelled.{kept_spelled}
use Rattle.lw_canonical.proofs.GlyphsInOrder.{glyphs_over, glyphs_ordered, bare_over, unmapped_over, glyph_over, over_spelled}
use Rattle.lw_canonical.proofs.Rearranged.{screen_of, base_of, alone, AreSpelled, IsWritten, AreWritten, IsBaseOf}
use Rattle.std.proofs.lemmas.Int.{ints}
use Rattle.std.proofs.lemmas.Bool.{true≢false, eqb-true, and_parts, true_from_ne_false}
use Rattle.std.proofs.lemmas.Bool.Decides.{nat_tests}

-- The screen's line stands among the good lines, with these numbers, below lines that leave this version to it.
record IsScreenRead (s : Setting) (v w h d : ℕ) : Type 0 where
  x : ℤ
  y : ℤ
  z : ℤ
  below : List Statement
  good : AreGoodLines s (ScreenLine x y z ∷ below)
  written : IsWritten s below (ScreenLine x y z)
  version : v ≡ version_at_screen (told below).version
  width : w ≡ unsigned_abs x
  height : h ≡ unsigned_abs y
  depth : d ≡ unsigned_abs z

-- so it does where any section but the first has begun
screen_read : (s : Setting) (above : List Statement) → AreGoodLines s above → AreWritten s above → When (has_screen (told above).section) (IsScreenRead s (told above).version (told above).width (told above).height (told above).depth)
screen_read s [] g written = tt
screen_read s (LayersLine ∷ above) g written = unless _ _ (ap has_screen (version_first s above g))
screen_read s (ScreenLine w h d ∷ above) g written =
    record { x = w; y = h; z = d; below = above; good = g; written = written.0 refl; version = refl; width = refl; height = refl; depth = refl }
screen_read s (TaskLine name ∷ above) g written =
    when _ _ (in_assets_or_tasks (told above).section (here s above (TaskLine name) g).1) (screen_read s above g.1 written.1)
screen_read s (EndLine ∷ above) g written =
    when _ _ (ap has_screen (in_calls (told above).section (here s above EndLine g).1)) (screen_read s above g.1 written.1)
screen_read s (OrderLine ∷ above) g written =
    when _ _ (ap has_screen (in_tasks (told above).section (and_parts _ _ (here s above OrderLine g).1).0)) (screen_read s above g.1 written.1)
screen_read s (ReportLine ∷ above) g written =
    when _ _ (ap has_screen (in_tasks (told above).section (and_parts _ _ (here s above ReportLine g).1).0)) (screen_read s above g.1 written.1)
screen_read s (f ∷ above) g written = screen_read s above g.1 written.1

-- a number from 1 on is what it counts
from_one : (z : ℤ) (m : ℕ) → within (pos 1) z (pos m) ≡ true → pos (unsigned_abs z) ≡ z
unfolding within
from_one z m h = grind (arith, ints, nat_tests)

-- The line of the version that stands before a screen line, where the lines above it tell this version, reads as the first
-- one; and it tells the version alone.
record AreFirst (t : Setting) (n : ℕ) : Type 0 where
  spelled : AreSpelled t (lines_of_version (version_at_screen n))
  version : (told (lines_of_version (version_at_screen n))).version ≡ n
  section : (told (lines_of_version (version_at_screen n))).section ≡ ScreenIsDue
  due : ((told (lines_of_version (version_at_screen n))).rows_due == 0) ≡ true
  few : (limits : Limits) → are_few limits (told (lines_of_version (version_at_screen n))) ≡ true

-- lines above a screen line tell version 2 or none
version_above : (above : List Statement) → is_screen_due (told above).section ≡ true → ((told above).version ≡ 0) ⊎ ((told above).version ≡ 2)
version_above [] e = inl refl
version_above (LayersLine ∷ above) e = inr refl
version_above (ScreenLine w h d ∷ above) e = absurd (true≢false (sym e))
version_above (TaskLine name ∷ above) e = absurd (true≢false (sym e))
version_above (EndLine ∷ above) e = absurd (true≢false (sym e))
version_above (OrderLine ∷ above) e = absurd (true≢false (sym e))
version_above (ReportLine ∷ above) e = absurd (true≢false (sym e))
version_above (f ∷ above) e = version_above above e

-- no layer, no task and no call is few
few_none : (limits : Limits) → are_few limits nothing_told ≡ true
few_none limits = few_by_bitmaps limits nothing_told refl (omega arith) refl refl refl refl

first_lines : (t : Setting) (version : ℕ) → (version ≡ 0) ⊎ (version ≡ 2) → AreFirst t version
unfolding verb_of
first_lines t version (inl none) =
    subst (AreFirst t) (sym none) (record { spelled = tt; version = refl; section = refl; due = refl; few = few_none })
first_lines t version (inr two) =
    subst (AreFirst t) (sym two) (record { spelled = (refl, refl, tt); version = refl; section = refl; due = refl; few = few_none })

-- a good line of a screen reads again below the line of its version alone
first_again : (s t : Setting) (x y z : ℤ) (above : List Statement) → AreGoodLines s (ScreenLine x y z ∷ above) → IsWritten s above (ScreenLine x y z) → AreSpelled t (ScreenLine x y z ∷ lines_of_version (version_at_screen (told above).version))
first_again s t x y z above g written =
    let f : Statement = ScreenLine x y z in
    let lines : List Statement = lines_of_version (version_at_screen (told above).version) in
    let at = here s above (ScreenLine x y z) g in
    let k = tests s above (ScreenLine x y z) g in
    let first : AreFirst t (told above).version = first_lines t (told above).version (version_above above at.1) in
    let P : ℕ → Type 0 = λ version. is_line_in_range version f ≡ true in
    let tested : IsStatementTested t lines (ScreenLine x y z) =
    record { range = subst P (sym first.version) k.range; named = refl; new = refl; group = refl; few = first.few (limits_of (told lines).version); hook = refl; unused = refl; padding = refl } in
    (spelled_again s t above lines f written (plain_statements s t above lines ScreenIsDue f at.0 first.due (in_screen _ at.1) first.section refl refl) (tests_pass t lines f tested), isnt_passed lines (spelled (ScreenLine x y z)) refl (ap is_nothing_due first.section), first.spelled)

-- it has the numbers that the lines above tell
screen_same : (s : Setting) (v w h d : ℕ) (k : IsScreenRead s v w h d) → ScreenLine k.x k.y k.z ≡ ScreenLine (pos w) (pos h) (pos d)
screen_same s v w h d k =
    let limit : ℕ = (limits_of (version_at_screen (told k.below).version)).screen in
    let halves = and_parts (within (pos 1) k.x (pos limit) && within (pos 1) k.y (pos limit)) _ (tests s k.below (ScreenLine k.x k.y k.z) k.good).range in
    let sides = and_parts (within (pos 1) k.x (pos limit)) _ halves.0 in
    let x : k.x ≡ pos w = sym (from_one k.x limit sides.0) ∙ ap pos (sym k.width) in
    let y : k.y ≡ pos h = sym (from_one k.y limit sides.1) ∙ ap pos (sym k.height) in
    let z : k.z ≡ pos d = sym (from_one k.z 8 halves.1) ∙ ap pos (sym k.depth) in
    ap (λ v. ScreenLine v k.y k.z) x ∙ (ap (λ v. ScreenLine (pos w) v k.z) y ∙ ap (λ v. ScreenLine (pos w) (pos h) v) z)

-- version and screen read again, where the screen's line stands among the good ones
screen_spelled : (s t : Setting) (above : List Statement) → AreGoodLines s above → AreWritten s above → has_screen (told above).section ≡ true → AreSpelled t (screen_of above)
screen_spelled s t above g written screen =
    let k = when _ _ screen (screen_read s above g written) in
    let P : Statement → Type 0 = λ f. AreSpelled t (f ∷ lines_of_version (told above).version) in
    let Q : ℕ → Type 0 = λ version. AreSpelled t (ScreenLine k.x k.y k.z ∷ lines_of_version version) in
    subst P (screen_same s (told above).version (told above).width (told above).height (told above).depth k) (subst Q (sym k.version) (first_again s t k.x k.y k.z k.below k.good k.written))

-- what they tell: nothing else
record AreBase (v w h d : ℕ) (lines : List Statement) : Type 0 where
  bare : IsBare v w h d lines
  alone : IsWithoutBitmaps lines
  has_glyph : (told lines).has_glyph ≡ nothing_told.has_glyph
  glyphs : (code : ℕ) → (told lines).glyphs code ≡ replicate 8 0

-- what holds of the versions 1 and 2 holds of that of good lines below a screen's
by_version : (P : ℕ → Type 0) → P 1 → P 2 → (v : ℕ) → 1 ≤ v → v ≤ 2 → P v
by_version P one two zero low high = absurd (omega arith)
by_version P one two (suc zero) low high = one
by_version P one two (suc (suc zero)) low high = two
by_version P one two (suc (suc (suc n))) low high = absurd (omega arith)

screen_base : (s : Setting) (above : List Statement) → AreGoodLines s above → has_screen (told above).section ≡ true → AreBase (told above).version (told above).width (told above).height (told above).depth (screen_of above)
screen_base s above g has =
    let k = when _ _ has (sized s above g) in
    let w = (told above).width in
    let h = (told above).height in
    let d = (told above).depth in
    let P : ℕ → Type 0 = λ v. AreBase v w h d (ScreenLine (pos w) (pos h) (pos d) ∷ lines_of_version v) in
    let one : IsBare 1 w h d (ScreenLine (pos w) (pos h) (pos d) ∷ []) =
    record { version = refl; section = refl; width = refl; height = refl; depth = refl; patterns = refl; tasks = refl; names = refl; names_without_slot = refl; pairs = refl; supers = refl; hooks = refl; group = refl; calls_in_task = refl; calls_before_group = refl; calls = refl; groups = refl } in
    let two : IsBare 2 w h d (ScreenLine (pos w) (pos h) (pos d) ∷ LayersLine ∷ []) =
    record { version = refl; section = refl; width = refl; height = refl; depth = refl; patterns = refl; tasks = refl; names = refl; names_without_slot = refl; pairs = refl; supers = refl; hooks = refl; group = refl; calls_in_task = refl; calls_before_group = refl; calls = refl; groups = refl } in
    let first : P 1 = record { bare = one; alone = record { due = refl; width = refl; names = refl; made = λ rows. refl }; has_glyph = refl; glyphs = λ code. refl } in
    let second : P 2 = record { bare = two; alone = record { due = refl; width = refl; names = refl; made = λ rows. refl }; has_glyph = refl; glyphs = λ code. refl } in
    by_version P first second (told above).version k.some_version k.small_version

-- the glyphs over it
abbrev glyphs_of : List Statement → List Statement
glyphs_of above = glyphs_over above (screen_of above) 95

-- the base is what is kept of the bitmaps over these
base_parts : (above : List Statement) → kept above (glyphs_of above) ≡ base_of above
base_parts above = ap (kept above) (sym (glyphs_ordered above (screen_of above)))

-- The base of good lines below a screen's reads in its one spelling, in each setting.
pub screened_base_spelled : (s t : Setting) (above : List Statement) → AreGoodLines s above → AreWritten s above → has_screen (told above).section ≡ true → AreSpelled t (base_of above)
screened_base_spelled s t above g written has =
    let v = (told above).version in
    let w = (told above).width in
    let h = (told above).height in
    let d = (told above).depth in
    let screen : List Statement = screen_of above in
    let k = screen_base s above g has in
    let glyphs : AreSpelled t (glyphs_of above) =
    over_spelled s t above screen g written v w h d k.bare k.alone k.has_glyph (screen_spelled s t above g written has) 95 in
    let all : AreSpelled t (kept above (glyphs_of above)) =
    kept_spelled s t v w h d (glyphs_of above) (bare_over above screen v w h d 95 k.bare) (unmapped_over above screen 95 k.alone) above g written glyphs in
    subst (AreSpelled t) (base_parts above) all

-- So does that of whole ones in a script alone.
pub base_spelled : (s : Setting) (above : List Statement) → AreGoodLines s above → AreWritten s above → may_end s.form (told above).section ≡ true → AreSpelled (alone s) (base_of above)
base_spelled s above g written whole = screened_base_spelled s (alone s) above g written (whole_ends s.form above whole).screen

-- Where an input may end, no rows are due.
pub none_at_end : (s : Setting) (above : List Statement) → AreGoodLines s above → may_end s.form (told above).section ≡ true → (told above).rows_due ≡ 0
none_at_end s above g whole =
    eqb-true _ 0 (true_from_ne_false ((told above).rows_due == 0) (λ e. true≢false (sym (rows_in_assets s above g e) ∙ (whole_ends s.form above whole).assets)))

-- the glyph of a code in its range
glyph_of_base : (s : Setting) (above : List Statement) → AreGoodLines s above → has_screen (told above).section ≡ true → (code : ℕ) → 32 ≤ code → code ≤ 126 → (told (kept above (glyphs_of above))).glyphs code ≡ (told above).glyphs code
glyph_of_base s above g has code low high =
    let P : ℕ → Type 0 = λ c. (told (glyphs_of above)).glyphs c ≡ (told above).glyphs c in
    let number : 32 + (code - 32) ≡ code = omega (arith, low) in
    glyph_kept above (glyphs_of above) code ∙ subst P number (glyph_over s above (screen_of above) g (screen_base s above g has).glyphs 95 (code - 32) (omega (arith, low, high)))

-- the same of the lines put together
is_kept_base : (s : Setting) (above : List Statement) → AreGoodLines s above → has_screen (told above).section ≡ true → (told above).rows_due ≡ 0 → IsBaseOf above (kept above (glyphs_of above))
is_kept_base s above g has none =
    let v = (told above).version in
    let w = (told above).width in
    let h = (told above).height in
    let d = (told above).depth in
    let screen : List Statement = screen_of above in
    let base = screen_base s above g has in
    let b = unmapped_over above screen 95 base.alone in
    let k = bare_kept v w h d above (glyphs_of above) (bare_over above screen v w h d 95 base.bare) in
    record {
      version = k.version;
      section = k.section;
      due = due_kept (glyphs_of above) b s above g ∙ none;
      width = k.width;
      height = k.height;
      depth = k.depth;
      bitmap_names = names_kept (glyphs_of above) b above;
      patterns = k.patterns;
      glyphs = glyph_of_base s above g has;
      bitmaps = made_kept (glyphs_of above) b s above g [] (none_due above none);
      tasks = k.tasks;
      names = k.names;
      names_without_slot = k.names_without_slot;
      pairs = k.pairs;
      supers = k.supers;
      hooks = k.hooks;
      group = k.group;
      calls_in_task = k.calls_in_task;
      calls_before_group = k.calls_before_group;
      calls = k.calls;
      groups = k.groups;
    }

-- The base of good lines below a screen's, below which no rows are due, tells of version, screen, glyphs and bitmaps what they
-- tell, and of nothing else.
pub base_is : (s : Setting) (above : List Statement) → AreGoodLines s above → has_screen (told above).section ≡ true → (told above).rows_due ≡ 0 → IsBaseOf above (base_of above)
base_is s above g has none = subst (IsBaseOf above) (base_parts above) (is_kept_base s above g has none)

-- So does that of whole ones.
pub whole_base_is : (s : Setting) (above : List Statement) → AreGoodLines s above → may_end s.form (told above).section ≡ true → IsBaseOf above (base_of above)
whole_base_is s above g whole = base_is s above g (whole_ends s.form above whole).screen (none_at_end s above g whole)
