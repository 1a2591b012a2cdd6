-- The statements that an area's line stands for are good where they stand.
use Rattle.std.proofs.Common.{◌≡◌, ℕ, ◌+◌, ◌<◌, ◌≤◌, ◌==◌, true, false, not, List, [], ◌∷◌, ◌++◌, length, bytes_eq, Option, Some, None, is_none, Ok, refl, sym, ap, subst, ◌∙◌, arith}
use Rattle.std.specs.List.{list_all}
use Rattle.lw_region.specs.Rectangle.{Rectangle}
use Rattle.lw_area.specs.declared.point.Point.{Point}
use Rattle.lw_area.specs.Polygons.{is_in_range}
use Rattle.lw_area.specs.Areas.{area_rectangles}
use Rattle.lw_calls.specs.declared.limits.Limits.{Limits}
use Rattle.lw_calls.specs.Limits.{limits_of, rect_fits}
use Rattle.lw_grammar.specs.Statements.{FillAct, Statement, CallLine, LockLine, UnlockLine, NameWithoutSlot, AreaLine}
use Rattle.lw_grammar.specs.Told.{OpenGroup, Locked, Updating, Held, Told, area_words, fill_lines, area_lines, stands_for, told_with, told, told_all}
use Rattle.lw_grammar.specs.Script.{Setting, are_calls_due, lacks_pattern, group_allows, allows_area, is_lock_on, are_few, area_tested, added}
use Rattle.lw_grammar.specs.GoodLines.{IsGoodLine, AreGoodLines}
use Rattle.lw_grammar.proofs.ScriptNames.{same_name, names_grow}
use Rattle.lw_grammar.proofs.ScriptStatements.{IsAreaHere}
use Rattle.lw_grammar.proofs.ScriptSizes.{IsStatementTested, passed, passed_last, tests_pass, AreCounted, few_counted, counted_few}
use Rattle.lw_grammar.proofs.AreaRectangles.{area_fits}
use Rattle.std.proofs.lemmas.Bool.{false≢true, not-true, and_parts, and_from, lt-ltb}

-- statements that are added in parts, and what they tell
pub added_parts : (fs gs above : List Statement) → added (fs ++ gs) above ≡ added gs (added fs above)
added_parts [] gs above = refl
added_parts (f ∷ fs) gs above = added_parts fs gs (f ∷ above)

pub told_parts : (fs gs : List Statement) (t : Told) → told_all (fs ++ gs) t ≡ told_all gs (told_all fs t)
told_parts [] gs t = refl
told_parts (f ∷ fs) gs t = told_parts fs gs (told_with f t)

pub told_added : (fs above : List Statement) → told (added fs above) ≡ told_all fs (told above)
told_added [] above = refl
told_added (f ∷ fs) above = told_added fs (f ∷ above)

-- of good lines each front is good
pub without_last : (s : Setting) (gs above : List Statement) → AreGoodLines s (added gs above) → AreGoodLines s above
without_last s [] above g = g
without_last s (f ∷ gs) above g = (without_last s gs (f ∷ above) g).1

pub front_good : (s : Setting) (fs gs above : List Statement) → AreGoodLines s (added (fs ++ gs) above) → AreGoodLines s (added fs above)
front_good s fs gs above g = without_last s gs (added fs above) (subst (AreGoodLines s) (added_parts fs gs above) g)

-- each test of an area that passed its tests
pub record IsAreaTested (t : Told) (layer : List ℕ) (pattern : Option (List ℕ)) (points : List Point) : Type 0 where
  pub range : list_all is_in_range points ≡ true
  pub named : lacks_pattern t.pattern_names pattern ≡ false
  pub group : allows_area t.group layer ≡ true
  pub few : are_few (limits_of t.version) (told_all (stands_for t (AreaLine layer pattern points)) t) ≡ true

pub area_passed : (t : Told) (layer : List ℕ) (pattern : Option (List ℕ)) (points : List Point) → area_tested t layer pattern points ≡ Ok tt → IsAreaTested t layer pattern points
area_passed t layer pattern points h =
    let a = passed (list_all is_in_range points) _ _ h in
    let b = passed (not (lacks_pattern t.pattern_names pattern)) _ _ a.1 in
    let c = passed (allows_area t.group layer) _ _ b.1 in
    let d = passed_last (are_few (limits_of t.version) (told_all (stands_for t (AreaLine layer pattern points)) t)) _ c.1 in
    record { range = a.0; named = not-true _ b.0; group = c.0; few = d }

-- a group that allows an area on the layer allows a fill of it
fill_allowed : (o : Option OpenGroup) (layer : List ℕ) (r : Rectangle) → allows_area o layer ≡ true → group_allows o (layer ∷ []) (FillAct r) ≡ true
fill_allowed None layer r h = refl
fill_allowed (Some (Locked m)) layer r h = and_from _ _ (and_from _ _ (and_from (bytes_eq m layer) true h refl) refl) refl
fill_allowed (Some (Updating m)) layer r h = and_from _ _ (and_from _ _ (and_from (bytes_eq m layer) true h refl) refl) refl
fill_allowed (Some Held) layer r h = absurd (false≢true h)

-- a fill of the layer may stand below what these lines tell
record MayFill (t : Told) (layer : List ℕ) : Type 0 where
  rows : (t.rows_due == 0) ≡ true
  calls : are_calls_due t.section ≡ true
  group : allows_area t.group layer ≡ true

-- fills leave this as it was, and are so many calls more
record AreFilled (t u : Told) (n : ℕ) : Type 0 where
  rows : u.rows_due ≡ t.rows_due
  section : u.section ≡ t.section
  version : u.version ≡ t.version
  group : u.group ≡ t.group
  calls_before_group : u.calls_before_group ≡ t.calls_before_group
  calls_in_task : u.calls_in_task ≡ t.calls_in_task + n

module _ (s : Setting) (layer : List ℕ) where
  -- a fill
  abbrev fill : Rectangle → Statement
  fill r = CallLine (layer ∷ []) (FillAct r)

  fill_good : (new : List Statement) (r : Rectangle) → MayFill (told new) layer → rect_fits r ≡ true → AreCounted (limits_of (told new).version) (told (fill r ∷ new)) → IsGoodLine s new (fill r)
  fill_good new r m fits few =
      let tested : IsStatementTested s new (fill r) =
      record { range = fits; named = refl; new = refl; group = fill_allowed (told new).group layer r m.group; few = counted_few _ _ few; hook = refl; unused = refl; padding = refl } in
      record { here = (m.rows, m.calls, (refl, tt), refl); tested = tests_pass s new (fill r) tested }

  -- before a fill, and before the end of a lock, there were as few of everything
  fill_less : (limits : Limits) (t : Told) (r : Rectangle) → AreCounted limits (told_with (fill r) t) → AreCounted limits t
  fill_less limits t r c =
      let supers : 0 + t.supers ≤ 16 = c.supers in
      let calls : t.calls_in_task + 1 ≤ limits.calls = c.calls in
      record {
        tasks = c.tasks;
        bitmaps = c.bitmaps;
        patterns = c.patterns;
        names = omega (arith, names_grow t.names (layer ∷ []), c.names);
        supers = omega (arith, supers);
        calls = omega (arith, calls);
      }

  fills_less : (limits : Limits) (rs : List Rectangle) (t : Told) → AreCounted limits (told_all (fill_lines layer rs) t) → AreCounted limits t
  fills_less limits [] t c = c
  fills_less limits (r ∷ rs) t c = fill_less limits t r (fills_less limits rs (told_with (fill r) t) c)

  unlock_less : (limits : Limits) (t : Told) → AreCounted limits (told_with (UnlockLine layer) t) → AreCounted limits t
  unlock_less limits t c =
      record {
        tasks = c.tasks;
        bitmaps = c.bitmaps;
        patterns = c.patterns;
        names = omega (arith, names_grow t.names (layer ∷ []), c.names);
        supers = c.supers;
        calls = c.calls;
      }

  -- what fills tell
  fills_tell : (rs : List Rectangle) (t : Told) → AreFilled t (told_all (fill_lines layer rs) t) (length rs)
  fills_tell [] t =
      record { rows = refl; section = refl; version = refl; group = refl; calls_before_group = refl; calls_in_task = omega arith }
  fills_tell (r ∷ rs) t =
      let k = fills_tell rs (told_with (fill r) t) in
      let more : (told_all (fill_lines layer (r ∷ rs)) t).calls_in_task ≡ (t.calls_in_task + 1) + length rs = k.calls_in_task in
      record { rows = k.rows; section = k.section; version = k.version; group = k.group; calls_before_group = k.calls_before_group; calls_in_task = omega (arith, more) }

  -- fills are good
  fills_good : (new : List Statement) (rs : List Rectangle) → MayFill (told new) layer → list_all rect_fits rs ≡ true → AreCounted (limits_of (told new).version) (told_all (fill_lines layer rs) (told new)) → AreGoodLines s new → AreGoodLines s (added (fill_lines layer rs) new)
  fills_good new [] m fits few g = g
  fills_good new (r ∷ rs) m fits few g =
      let k = and_parts (rect_fits r) (list_all rect_fits rs) fits in
      let first = fill_good new r m k.0 (fills_less _ rs (told (fill r ∷ new)) few) in
      fills_good (fill r ∷ new) rs (record { rows = m.rows; calls = m.calls; group = m.group }) k.1 few (first, g)

  -- so is the beginning of a lock where no group is open, and its end after a call
  lock_good : (above : List Statement) → ((told above).rows_due == 0) ≡ true → are_calls_due (told above).section ≡ true → (told above).group ≡ None → AreCounted (limits_of (told above).version) (told (LockLine layer ∷ above)) → IsGoodLine s above (LockLine layer)
  lock_good above rows calls none few =
      let tested : IsStatementTested s above (LockLine layer) =
      record { range = refl; named = refl; new = refl; group = ap is_none none; few = counted_few _ _ few; hook = refl; unused = refl; padding = refl } in
      record { here = (rows, calls, tt, refl); tested = tests_pass s above (LockLine layer) tested }

  unlock_good : (new : List Statement) → ((told new).rows_due == 0) ≡ true → are_calls_due (told new).section ≡ true → (told new).group ≡ Some (Locked layer) → (told new).calls_before_group < (told new).calls_in_task → AreCounted (limits_of (told new).version) (told (UnlockLine layer ∷ new)) → IsGoodLine s new (UnlockLine layer)
  unlock_good new rows calls locked some few =
      let ends = and_from _ _ (ap (is_lock_on layer) locked ∙ same_name layer) (lt-ltb _ _ some) in
      let tested : IsStatementTested s new (UnlockLine layer) =
      record { range = refl; named = refl; new = refl; group = ends; few = counted_few _ _ few; hook = refl; unused = refl; padding = refl } in
      record { here = (rows, calls, tt, refl); tested = tests_pass s new (UnlockLine layer) tested }

  -- so is a name alone
  seen_good : (above : List Statement) → ((told above).rows_due == 0) ≡ true → are_calls_due (told above).section ≡ true → AreCounted (limits_of (told above).version) (told (NameWithoutSlot layer ∷ above)) → IsGoodLine s above (NameWithoutSlot layer)
  seen_good above rows calls few =
      let tested : IsStatementTested s above (NameWithoutSlot layer) =
      record { range = refl; named = refl; new = refl; group = refl; few = counted_few _ _ few; hook = refl; unused = refl; padding = refl } in
      record { here = (rows, calls, tt, refl); tested = tests_pass s above (NameWithoutSlot layer) tested }

  -- fills that are a group of their own
  group_good : (above : List Statement) (r : Rectangle) (rs : List Rectangle) → ((told above).rows_due == 0) ≡ true → are_calls_due (told above).section ≡ true → (told above).group ≡ None → list_all rect_fits (r ∷ rs) ≡ true → AreCounted (limits_of (told above).version) (told_all (area_lines None layer (r ∷ rs)) (told above)) → AreGoodLines s above → AreGoodLines s (added (area_lines None layer (r ∷ rs)) above)
  group_good above r rs rows calls none fits few g =
      let locked : List Statement = LockLine layer ∷ above in
      let fills : List Statement = fill_lines layer (r ∷ rs) in
      let limits : Limits = limits_of (told above).version in
      let filled = fills_tell (r ∷ rs) (told locked) in
      let whole : AreCounted limits (told_with (UnlockLine layer) (told_all fills (told locked))) =
      subst (AreCounted limits) (told_parts fills (UnlockLine layer ∷ []) (told locked)) few in
      let before = unlock_less limits (told_all fills (told locked)) whole in
      let begun : AreGoodLines s locked = (lock_good above rows calls none (fills_less limits (r ∷ rs) (told locked) before), g) in
      let inside = fills_good locked (r ∷ rs) (record { rows = rows; calls = calls; group = same_name layer }) fits before begun in
      let same = told_added fills locked in
      let P : Told → Type 0 = λ t. AreCounted limits (told_with (UnlockLine layer) t) in
      let Q : ℕ → Type 0 = λ v. AreCounted (limits_of v) (told (UnlockLine layer ∷ added fills locked)) in
      let version : (told above).version ≡ (told (added fills locked)).version = sym (ap (λ (t : Told). t.version) same ∙ filled.version) in
      let last : AreCounted (limits_of (told (added fills locked)).version) (told (UnlockLine layer ∷ added fills locked)) = subst Q version (subst P (sym same) whole) in
      let due = ap (λ (t : Told). t.rows_due == 0) same ∙ ap (λ (n : ℕ). n == 0) filled.rows ∙ rows in
      let kept : (told (added fills locked)).group ≡ Some (Locked layer) = ap (λ (t : Told). t.group) same ∙ filled.group in
      let calls_before_group : (told (added fills locked)).calls_before_group ≡ (told above).calls_in_task = ap (λ (t : Told). t.calls_before_group) same ∙ filled.calls_before_group in
      let calls_in_task : (told (added fills locked)).calls_in_task ≡ (told above).calls_in_task + length (r ∷ rs) = ap (λ (t : Told). t.calls_in_task) same ∙ filled.calls_in_task in
      let ended = unlock_good (added fills locked) due (ap (λ (t : Told). are_calls_due t.section) same ∙ ap are_calls_due filled.section ∙ calls) kept (omega (arith, calls_before_group, calls_in_task)) last in
      subst (AreGoodLines s) (sym (added_parts fills (UnlockLine layer ∷ []) locked)) (ended, inside)

-- The statements of an area that passes its tests are good.
pub area_good : (s : Setting) (above : List Statement) (layer : List ℕ) (pattern : Option (List ℕ)) (points : List Point) → IsAreaHere above layer → area_tested (told above) layer pattern points ≡ Ok tt → AreGoodLines s above → AreGoodLines s (added (stands_for (told above) (AreaLine layer pattern points)) above)
area_good s above layer pattern points h e g =
    let t = area_passed (told above) layer pattern points e in
    go (told above).group refl (area_rectangles points (area_words (told above) pattern)) (area_fits points (area_words (told above) pattern) t.range) t.few t.group
  where
    go : (o : Option OpenGroup) → (told above).group ≡ o → (rs : List Rectangle) → list_all rect_fits rs ≡ true → are_few (limits_of (told above).version) (told_all (area_lines o layer rs) (told above)) ≡ true → allows_area o layer ≡ true → AreGoodLines s (added (area_lines o layer rs) above)
    go o same [] fits few allowed = (seen_good s layer above h.rows h.calls (few_counted _ _ few), g)
    go None same (r ∷ rs) fits few allowed = group_good s layer above r rs h.rows h.calls same fits (few_counted _ _ few) g
    go (Some x) same (r ∷ rs) fits few allowed =
        fills_good s layer above (r ∷ rs) (record { rows = h.rows; calls = h.calls; group = ap (λ (k : Option OpenGroup). allows_area k layer) same ∙ allowed }) fits (few_counted _ _ few) g
