-- The statements that lines stand for that were read read, in their spelling, where they stand: that of a line of its own was read
-- so, and those of an area are spelled by plain words.
use Rattle.std.proofs.Common.{◌≡◌, ℕ, ◌≤◌, true, false, not, ◌&&◌, List, [], ◌∷◌, ◌++◌, ℤ, Option, Some, None, Ok, refl, sym, ap, subst, ◌∙◌, arith}
use Rattle.std.specs.List.{list_all}
use Rattle.std.specs.Fmt.{signed_decimal}
use Rattle.lw_region.specs.Rectangle.{Rectangle}
use Rattle.lw_area.specs.Areas.{area_rectangles}
use Rattle.lw_calls.specs.Limits.{is_coordinate, axis_fits}
use Rattle.lw_calls.proofs.LimitLaws.{screen_at_most}
use Rattle.lw_grammar.specs.declared.verb.PartVerb.TheVariants.{Lock as LockVerb, Unlock as UnlockVerb}
use Rattle.lw_grammar.specs.declared.verb.Verb.TheVariants.{Part, Fill as FillVerb}
use Rattle.lw_grammar.specs.Tokens.{NameToken, token_of}
use Rattle.lw_grammar.specs.Verbs.{verb_of}
use Rattle.lw_grammar.specs.Statements.{FillAct, Statement, CallLine, LockLine, UnlockLine, NameWithoutSlot, GzzAct, OpenGzz, BoxGzz, FrontGzz, BehindGzz, InFrontGzz, CloseGzz, Line, StatementLine, AreaLine, GzzLine, line_by}
use Rattle.lw_grammar.specs.Told.{Section, OpenGroup, NamedPair, area_words, fill_lines, area_lines, gzz_lines, stands_for, told}
use Rattle.lw_grammar.specs.Script.{Setting, are_calls_due, are_numbers_due, parts_pair, line_read, added}
use Rattle.lw_grammar.specs.GoodLines.{IsGoodLine, AreGoodLines}
use Rattle.lw_canonical.specs.Spelling.{bounds_words}
use Rattle.lw_grammar.proofs.ScriptSizes.{when, has_screen, in_calls, sized, tests_passed}
use Rattle.lw_grammar.proofs.AreaLines.{without_last}
use Rattle.lw_grammar.proofs.ScriptOutcome.{line_good, plain_tested, IsKept, lines_more}
use Rattle.lw_canonical.proofs.Rearranged.{is_first, stated, IsWritten, AreWritten, IsOwnWritten, AreLinesWritten}
use Rattle.lw_canonical.proofs.OneSpelling.{one_spelling, gzz_spelling}
use Rattle.lw_canonical.proofs.PlainWords.{is_plain, name_plain}
use Rattle.lw_canonical.proofs.WrittenNumbers.{IsNumber, coordinate_read_back}
use Rattle.lw_canonical.proofs.ReadsForward.{line_reads}
use Rattle.std.proofs.lemmas.Bool.{false≢true, not-true, and_parts, and_from}

-- a good statement reads in its spelling, wherever it stands, and parts no window of two layers
abbrev IsPlain : Setting → Statement → Type 0
IsPlain s f = (above : List Statement) → IsGoodLine s above f → IsOwnWritten s above f × (parts_pair (told above).pairs f ≡ false)

abbrev ArePlain : Setting → List Statement → Type 0
ArePlain s [] = Unit {0}
ArePlain s (f ∷ fs) = IsPlain s f × ArePlain s fs

-- such statements as lines on others
abbrev lines_on : List Statement → List Line → List Line
lines_on [] ls = ls
lines_on (f ∷ fs) ls = lines_on fs (StatementLine f ∷ ls)

stated_on : (fs : List Statement) (ls : List Line) → stated (lines_on fs ls) ≡ added fs (stated ls)
stated_on [] ls = refl
stated_on (f ∷ fs) ls = stated_on fs (StatementLine f ∷ ls)

-- where they are good, they are written
plain_written : (s : Setting) (fs : List Statement) (ls : List Line) → ArePlain s fs → AreGoodLines s (added fs (stated ls)) → AreLinesWritten s ls → AreLinesWritten s (lines_on fs ls)
plain_written s [] ls p g w = w
plain_written s (f ∷ fs) ls p g w = plain_written s fs (StatementLine f ∷ ls) p.1 g (p.0 (stated ls) (without_last s fs (f ∷ stated ls) g).0, w)

-- where calls are due, no numbers are
no_numbers : (c : Section) → are_calls_due c ≡ true → are_numbers_due c ≡ false
no_numbers c e = ap are_numbers_due (in_calls c e)

-- the bounds of a rectangle, as they are written
axis_read_back : (low high : ℤ) → axis_fits low high ≡ true → IsNumber low × IsNumber high
unfolding axis_fits
axis_read_back low high h =
    let k = and_parts (is_coordinate low) (is_coordinate high) (and_parts (is_coordinate low && is_coordinate high) _ h).0 in
    (coordinate_read_back low k.0, coordinate_read_back high k.1)

module _ (s : Setting) (layer : List ℕ) (name : token_of layer ≡ NameToken layer) where
  name_words : list_all is_plain (layer ∷ []) ≡ true
  name_words = and_from (is_plain layer) true (name_plain layer name) refl

  lock_plain : IsPlain s (LockLine layer)
  unfolding verb_of
  lock_plain above g =
      (line_reads s (told above) (LockLine layer) (Part LockVerb) (layer ∷ []) refl name_words (omega arith) refl refl (λ i. line_by (Part LockVerb) (name i ∷ [])) g.here.0 (no_numbers (told above).section g.here.1) g.here.1 g.tested, refl)

  unlock_plain : IsPlain s (UnlockLine layer)
  unfolding verb_of
  unlock_plain above g =
      (line_reads s (told above) (UnlockLine layer) (Part UnlockVerb) (layer ∷ []) refl name_words (omega arith) refl refl (λ i. line_by (Part UnlockVerb) (name i ∷ [])) g.here.0 (no_numbers (told above).section g.here.1) g.here.1 g.tested, refl)

  fill_plain : (r : Rectangle) → IsPlain s (CallLine (layer ∷ []) (FillAct r))
  unfolding verb_of
  fill_plain r above g =
      let fits = and_parts (axis_fits r.min_x r.max_x) (axis_fits r.min_y r.max_y) (tests_passed s above (CallLine (layer ∷ []) (FillAct r)) g.tested).range in
      let x = axis_read_back r.min_x r.max_x fits.0 in
      let y = axis_read_back r.min_y r.max_y fits.1 in
      let numbers : list_all is_plain (bounds_words r) ≡ true =
      and_from (is_plain (signed_decimal r.min_x)) _ x.0.plain (and_from (is_plain (signed_decimal r.min_y)) _ y.0.plain (and_from (is_plain (signed_decimal r.max_x)) _ x.1.plain (and_from (is_plain (signed_decimal r.max_y)) true y.1.plain refl))) in
      (line_reads s (told above) (CallLine (layer ∷ []) (FillAct r)) FillVerb (layer ∷ bounds_words r) refl (and_from (is_plain layer) _ (name_plain layer name) numbers) (omega arith) refl refl (λ i. line_by FillVerb (name i ∷ x.0.token i ∷ y.0.token i ∷ x.1.token i ∷ y.1.token i ∷ [])) g.here.0 (no_numbers (told above).section g.here.1) g.here.1 g.tested, refl)

  -- fills, and the statements of an area
  fills_plain : (rs : List Rectangle) (fs : List Statement) → ArePlain s fs → ArePlain s (fill_lines layer rs ++ fs)
  fills_plain [] fs p = p
  fills_plain (r ∷ rs) fs p = (fill_plain r, fills_plain rs fs p)

  only_fills_plain : (rs : List Rectangle) → ArePlain s (fill_lines layer rs)
  only_fills_plain [] = tt
  only_fills_plain (r ∷ rs) = (fill_plain r, only_fills_plain rs)

  area_plain : (o : Option OpenGroup) (rs : List Rectangle) → ArePlain s (area_lines o layer rs)
  area_plain None [] = (λ above g. (tt, refl), tt)
  area_plain (Some x) [] = (λ above g. (tt, refl), tt)
  area_plain None (r ∷ rs) = (lock_plain, fills_plain (r ∷ rs) (UnlockLine layer ∷ []) (unlock_plain, tt))
  area_plain (Some x) (r ∷ rs) = only_fills_plain (r ∷ rs)

-- Statements for which written lines stand.
pub record HaveWritten (s : Setting) (above : List Statement) : Type 0 where
  pub lines : List Line
  pub are : stated lines ≡ above
  pub written : AreLinesWritten s lines

-- the screen below which tasks stand is small
screen_small : (s : Setting) (above : List Statement) → AreGoodLines s above → are_calls_due (told above).section ≡ true → ((told above).width ≤ 32767) × ((told above).height ≤ 32767)
screen_small s above g calls =
    let k = when (has_screen (told above).section) _ (ap has_screen (in_calls (told above).section calls)) (sized s above g) in
    let most = screen_at_most (told above).version in
    (omega (arith, most, k.sizes.columns.1), omega (arith, most, k.sizes.rows.1))

-- a statement that is written is so where a line stands for it
own_written : (s : Setting) (above : List Statement) (f : Statement) → IsWritten s above f → IsOwnWritten s above f
own_written s above (NameWithoutSlot name) w = tt
own_written s above f w = w

-- a further line that was read is written, or stands for statements that are
more_written : (s : Setting) (ls : List Line) (line : List ℕ) (l : Line) → line_read s (told (stated ls)) line ≡ Ok l → AreGoodLines s (stated ls) → AreLinesWritten s ls → HaveWritten s (added (stands_for (told (stated ls)) l) (stated ls))
more_written s ls line (StatementLine f) e g w =
    let k = line_good s (stated ls) line (StatementLine f) e in
    let spelt = one_spelling s (stated ls) line f e in
    let own : IsWritten s (stated ls) f = subst (λ (bytes : List ℕ). line_read s (told (stated ls)) bytes ≡ Ok (StatementLine f)) (sym spelt) e in
    record { lines = StatementLine f ∷ ls; are = refl; written = ((own_written s (stated ls) f own, (plain_tested s (stated ls) f k.1).0), w) }
more_written s ls line (AreaLine layer pattern points) e g w =
    let k = line_good s (stated ls) line (AreaLine layer pattern points) e in
    let rects = area_rectangles points (area_words (told (stated ls)) pattern) in
    let fs : List Statement = area_lines (told (stated ls)).group layer rects in
    let good = lines_more s (stated ls) line (AreaLine layer pattern points) e g in
    record { lines = lines_on fs ls; are = stated_on fs ls; written = plain_written s fs ls (area_plain s layer k.0.name (told (stated ls)).group rects) good w }
more_written s ls line (GzzLine name act) e g w =
    let k = line_good s (stated ls) line (GzzLine name act) e in
    let small = screen_small s (stated ls) g k.0.calls in
    let spelt = gzz_spelling s (stated ls) line name act small.0 small.1 e in
    record {
      lines = GzzLine name act ∷ ls;
      are = refl;
      written = (subst (λ (bytes : List ℕ). line_read s (told (stated ls)) bytes ≡ Ok (GzzLine name act)) (sym spelt) e, w);
    }

-- What lines stand for that were read is good and written.
abbrev pub AreGoodAndWritten : Setting → List Statement → Type 0
AreGoodAndWritten s above = AreGoodLines s above × HaveWritten s above

pub written_more : (s : Setting) → IsKept (AreGoodAndWritten s) s
written_more s above line l e h =
    let P : List Statement → Type 0 = λ a. AreGoodLines s a → line_read s (told a) line ≡ Ok l → HaveWritten s (added (stands_for (told a) l) a) in
    (lines_more s above line l e h.0, subst P h.1.are (λ g d. more_written s h.1.lines line l d g h.1.written) h.0 e)

-- Lines that are written spell what stands above the tasks.
own_first : (s : Setting) (above : List Statement) (f : Statement) → is_first f ≡ true → IsOwnWritten s above f → IsWritten s above f
own_first s above (NameWithoutSlot name) h w = absurd (false≢true h)
own_first s above f h w = w

none_first : (s : Setting) (fs above : List Statement) → list_all (λ f. not (is_first f)) fs ≡ true → AreWritten s above → AreWritten s (added fs above)
none_first s [] above h w = w
none_first s (f ∷ fs) above h w =
    let k = and_parts (not (is_first f)) (list_all (λ g. not (is_first g)) fs) h in
    none_first s fs (f ∷ above) k.1 (λ e. absurd (false≢true (sym (not-true (is_first f) k.0) ∙ e)), w)

gzz_none_first : (pairs : List NamedPair) (g : List ℕ) (act : GzzAct) → list_all (λ f. not (is_first f)) (gzz_lines pairs g act) ≡ true
gzz_none_first pairs g (OpenGzz inner kind place r classes title) = refl
gzz_none_first pairs g (BoxGzz r) = refl
gzz_none_first pairs g FrontGzz = refl
gzz_none_first pairs g BehindGzz = refl
gzz_none_first pairs g (InFrontGzz m) = refl
gzz_none_first pairs g CloseGzz = refl

pub first_written : (s : Setting) (ls : List Line) → AreLinesWritten s ls → AreWritten s (stated ls)
first_written s [] w = tt
first_written s (StatementLine f ∷ ls) w = (λ e. own_first s (stated ls) f e w.0.0, first_written s ls w.1)
first_written s (AreaLine layer pattern points ∷ ls) w = absurd w.0
first_written s (GzzLine g act ∷ ls) w = none_first s (gzz_lines (told (stated ls)).pairs g act) (stated ls) (gzz_none_first (told (stated ls)).pairs g act) (first_written s ls w.1)
