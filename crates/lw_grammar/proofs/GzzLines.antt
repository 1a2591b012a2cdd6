-- The statements that a line stands for which is done with a window of two layers are good where they stand.
use Rattle.std.proofs.Common.{◌≡◌, ℕ, ◌+◌, ◌<◌, ◌≤◌, ◌==◌, Bool, true, false, not, cond, ◌&&◌, List, [], ◌∷◌, ◌++◌, length, ℤ, pos, ◌+ℤ◌, ◌-ℤ◌, Option, Some, None, is_none, Ok, refl, sym, ap, subst, ◌∙◌, arith}
use Rattle.lw_region.specs.Rectangle.{within}
use Rattle.lw_calls.specs.declared.make.Kind.{Kind}
use Rattle.lw_calls.specs.declared.make.Kind.TheVariants.{Simple, Smart, SuperBitmap}
use Rattle.lw_calls.specs.declared.make.Place.{Place}
use Rattle.lw_calls.specs.declared.limits.Limits.{Limits}
use Rattle.lw_calls.specs.Limits.{limits_of, is_coordinate, is_extent, coordinates_fit}
use Rattle.lw_calls.specs.Kinds.{is_super}
use Rattle.lw_calls.proofs.LimitLaws.{screen_at_most}
use Rattle.lw_grammar.specs.declared.verb.BareVerb.TheVariants.{Close as CloseVerb, Front as FrontVerb, Behind as BehindVerb}
use Rattle.lw_grammar.specs.Statements.{Act, BareAct, OpenAct, InFrontAct, BoxAct, layers_of, Statement, CallLine, HoldLine, ReleaseLine, PairMade, GzzAct, OpenGzz, BoxGzz, FrontGzz, BehindGzz, InFrontGzz, CloseGzz, GzzLine, new_without_bitmap, is_act_in_range, box_fits, is_gzz_box, is_gzz_in_range, Box}
use Rattle.lw_grammar.specs.Told.{OpenGroup, Held, Told, makes_super, hook_on, left_open_by, calls_before_by, inner_box, gzz_calls, inner_by, stands_for, told_with, told, told_all}
use Rattle.lw_grammar.specs.Script.{Setting, are_calls_due, lacks_name, is_on_all, group_allows, lacks_pair, names_again, comes_between, is_hold, is_no_hook, is_hook_named, are_few, gzz_tested, added}
use Rattle.lw_grammar.specs.GoodLines.{is_known_act, IsActMade, IsGoodLine, AreGoodLines}
use Rattle.lw_grammar.proofs.ScriptNames.{names_grow}
use Rattle.lw_grammar.proofs.ScriptStatements.{IsGzzMade, IsGzzHere}
use Rattle.lw_grammar.proofs.ScriptSizes.{IsStatementTested, passed, passed_last, tests_pass, when, has_screen, in_calls, sized, AreCounted, few_counted, counted_few}
use Rattle.lw_grammar.proofs.AreaLines.{added_parts, told_parts, told_added}
use Rattle.std.proofs.lemmas.Int.{ints}
use Rattle.std.proofs.lemmas.Bool.Decides.{nat_tests}
use Rattle.std.proofs.lemmas.Bool.{true≢false, and_right, not-true, and_parts, and_from, lt-ltb}

-- each test of such a line that passed its tests
pub record IsGzzTested (t : Told) (g : List ℕ) (act : GzzAct) : Type 0 where
  pub range : is_gzz_in_range t.width t.height act ≡ true
  pub known : lacks_pair t.pairs g act ≡ false
  pub new : names_again t g act ≡ false
  pub apart : comes_between t.pairs act ≡ false
  pub group : is_none t.group ≡ true
  pub few : are_few (limits_of t.version) (told_all (stands_for t (GzzLine g act)) t) ≡ true

pub gzz_passed : (t : Told) (g : List ℕ) (act : GzzAct) → gzz_tested t g act ≡ Ok tt → IsGzzTested t g act
gzz_passed t g act h =
    let a = passed (is_gzz_in_range t.width t.height act) _ _ h in
    let b = passed (not (lacks_pair t.pairs g act)) _ _ a.1 in
    let c = passed (not (names_again t g act)) _ _ b.1 in
    let d = passed (not (comes_between t.pairs act)) _ _ c.1 in
    let e = passed (is_none t.group) _ _ d.1 in
    let f = passed_last (are_few (limits_of t.version) (told_all (stands_for t (GzzLine g act)) t)) _ e.1 in
    record { range = a.0; known = not-true _ b.0; new = not-true _ c.0; apart = not-true _ d.0; group = e.0; few = f }

-- along one axis, a place and a size of such a box, and those of the box inside it, whose frame takes so much before and in all
axis_small : (least before whole : ℕ) (most : ℕ) (x w : ℤ) → before + 1 ≤ least → whole + 1 ≤ least → before + 1 ≤ whole → most ≤ 32767 → is_coordinate x ≡ true → within (pos least) w (pos most) ≡ true → is_coordinate ((x +ℤ w) -ℤ pos 1) ≡ true → (is_extent w ≡ true) × (is_coordinate (x +ℤ pos before) ≡ true) × (is_extent (w -ℤ pos whole) ≡ true)
unfolding within
axis_small least before whole most x w a b c d e f g = grind (arith, ints, nat_tests)

-- so both boxes are ones that a window may have
pub boxes_fit : (width height : ℕ) (r : Box) → width ≤ 32767 → height ≤ 32767 → is_gzz_box width height r ≡ true → (box_fits r ≡ true) × (box_fits (inner_box r) ≡ true)
boxes_fit width height r wide high h =
    let corner = and_parts (coordinates_fit r.x r.y) _ h in
    let rest = and_parts (within (pos 9) r.w (pos width) && within (pos 14) r.h (pos height)) _ corner.1 in
    let low = and_parts (is_coordinate r.x) _ corner.0 in
    let size = and_parts (within (pos 9) r.w (pos width)) _ rest.0 in
    let far = and_parts (is_coordinate ((r.x +ℤ r.w) -ℤ pos 1)) _ rest.1 in
    let x = axis_small 9 4 8 width r.x r.w (omega arith) (omega arith) (omega arith) wide low.0 size.0 far.0 in
    let y = axis_small 14 11 13 height r.y r.h (omega arith) (omega arith) (omega arith) high low.1 size.1 far.1 in
    (and_from _ _ corner.0 (and_from _ _ x.0 y.0), and_from _ _ (and_from _ _ x.1 y.1) (and_from _ _ x.2 y.2))

-- A call of a hold group that neither begins nor ends an update and names no hook and no bitmap.
pub record IsHeldCall (layers : List (List ℕ)) (act : Act) : Type 0 where
  pub long : length layers ≡ layers_of act
  pub made : IsActMade act
  pub range : is_act_in_range act ≡ true
  pub all : is_on_all act ≡ true
  pub named : (names : List (List ℕ)) → lacks_name names (CallLine layers act) ≡ false
  pub known : (version : ℕ) → is_known_act version act ≡ true
  pub hook : hook_on (CallLine layers act) ≡ None
  pub open_ : (o : Option OpenGroup) → left_open_by layers act o ≡ o
  pub begun : (m n : ℕ) → calls_before_by act m n ≡ n

-- each of these is one
abbrev pub AreHeldCalls : List Statement → Type 0
AreHeldCalls [] = Unit {0}
AreHeldCalls (CallLine layers act ∷ fs) = IsHeldCall layers act × AreHeldCalls fs
AreHeldCalls (f ∷ fs) = ⊥

front_held : (l : List ℕ) → IsHeldCall (l ∷ []) (BareAct FrontVerb)
front_held l = record { long = refl; made = tt; range = refl; all = refl; named = λ names. refl; known = λ v. refl; hook = refl; open_ = λ o. refl; begun = λ m n. refl }

behind_held : (l : List ℕ) → IsHeldCall (l ∷ []) (BareAct BehindVerb)
behind_held l = record { long = refl; made = tt; range = refl; all = refl; named = λ names. refl; known = λ v. refl; hook = refl; open_ = λ o. refl; begun = λ m n. refl }

close_held : (l : List ℕ) → IsHeldCall (l ∷ []) (BareAct CloseVerb)
close_held l = record { long = refl; made = tt; range = refl; all = refl; named = λ names. refl; known = λ v. refl; hook = refl; open_ = λ o. refl; begun = λ m n. refl }

infront_held : (l m : List ℕ) → IsHeldCall (l ∷ m ∷ []) InFrontAct
infront_held l m = record { long = refl; made = tt; range = refl; all = refl; named = λ names. refl; known = λ v. refl; hook = refl; open_ = λ o. refl; begun = λ m n. refl }

box_held : (l : List ℕ) (r : Box) → box_fits r ≡ true → IsHeldCall (l ∷ []) (BoxAct r)
box_held l r h = record { long = refl; made = tt; range = h; all = refl; named = λ names. refl; known = λ v. refl; hook = refl; open_ = λ o. refl; begun = λ m n. refl }

open_held : (l : List ℕ) (kind : Kind) (place : Place) (r : Box) (framed : Bool) (classes : ℕ) (title : List ℕ) → is_super kind ≡ false → classes < 32 → box_fits r ≡ true → IsHeldCall (l ∷ []) (OpenAct r (new_without_bitmap kind place false None) framed false classes title)
open_held l Simple place r framed classes title k c h =
    record { long = refl; made = ((refl, refl), and_right framed false refl, c); range = and_from _ _ h refl; all = refl; named = λ names. refl; known = λ v. refl; hook = refl; open_ = λ o. refl; begun = λ m n. refl }
open_held l Smart place r framed classes title k c h =
    record { long = refl; made = ((refl, refl), and_right framed false refl, c); range = and_from _ _ h refl; all = refl; named = λ names. refl; known = λ v. refl; hook = refl; open_ = λ o. refl; begun = λ m n. refl }
open_held l SuperBitmap place r framed classes title k c h = absurd (true≢false k)

-- so are all calls of such a line whose box is in its range
pub calls_held : (width height : ℕ) (g i : List ℕ) (act : GzzAct) → width ≤ 32767 → height ≤ 32767 → IsGzzMade act → is_gzz_in_range width height act ≡ true → AreHeldCalls (gzz_calls g i act)
calls_held width height g i (OpenGzz inner kind place r classes title) wide high m h =
    let b = boxes_fit width height r wide high h in
    (open_held g Smart place r true classes title refl m.1 b.0, (open_held i kind place (inner_box r) false classes [] m.0 m.1 b.1, (infront_held i g, tt)))
calls_held width height g i (BoxGzz r) wide high m h = let b = boxes_fit width height r wide high h in (box_held g r b.0, (box_held i (inner_box r) b.1, tt))
calls_held width height g i FrontGzz wide high m h = (front_held g, (front_held i, tt))
calls_held width height g i BehindGzz wide high m h = (behind_held i, (behind_held g, tt))
calls_held width height g i (InFrontGzz n) wide high m h = (infront_held g n, (infront_held i g, tt))
calls_held width height g i CloseGzz wide high m h = (close_held g, (close_held i, tt))

-- a hold group is open below what these lines tell
record IsHeldHere (t : Told) : Type 0 where
  rows : (t.rows_due == 0) ≡ true
  calls : are_calls_due t.section ≡ true
  group : t.group ≡ Some Held

-- its calls leave this as it was, and are so many more
record AreHeldTold (t u : Told) (n : ℕ) : Type 0 where
  rows : u.rows_due ≡ t.rows_due
  section : u.section ≡ t.section
  version : u.version ≡ t.version
  group : u.group ≡ t.group
  calls_before_group : u.calls_before_group ≡ t.calls_before_group
  calls_in_task : u.calls_in_task ≡ t.calls_in_task + n

held_tell : (fs : List Statement) (t : Told) → AreHeldCalls fs → AreHeldTold t (told_all fs t) (length fs)
held_tell [] t h = record { rows = refl; section = refl; version = refl; group = refl; calls_before_group = refl; calls_in_task = omega arith }
held_tell (CallLine layers act ∷ fs) t h =
    let k = held_tell fs (told_with (CallLine layers act) t) h.1 in
    let more : (told_all fs (told_with (CallLine layers act) t)).calls_in_task ≡ (t.calls_in_task + 1) + length fs = k.calls_in_task in
    record {
      rows = k.rows;
      section = k.section;
      version = k.version;
      group = k.group ∙ h.0.open_ t.group;
      calls_before_group = k.calls_before_group ∙ h.0.begun t.calls_in_task t.calls_before_group;
      calls_in_task = omega (arith, more);
    }
held_tell (f ∷ fs) t h = absurd h

-- before such a call there were as few of everything
call_less : (limits : Limits) (t : Told) (layers : List (List ℕ)) (act : Act) → AreCounted limits (told_with (CallLine layers act) t) → AreCounted limits t
call_less limits t layers act c =
    let supers : cond (makes_super (CallLine layers act)) 1 0 + t.supers ≤ 16 = c.supers in
    let calls : t.calls_in_task + 1 ≤ limits.calls = c.calls in
    record {
      tasks = c.tasks;
      bitmaps = c.bitmaps;
      patterns = c.patterns;
      names = omega (arith, names_grow t.names layers, c.names);
      supers = omega (arith, supers);
      calls = omega (arith, calls);
    }

calls_less : (limits : Limits) (fs : List Statement) (t : Told) → AreHeldCalls fs → AreCounted limits (told_all fs t) → AreCounted limits t
calls_less limits [] t h c = c
calls_less limits (CallLine layers act ∷ fs) t h c = call_less limits t layers act (calls_less limits fs (told_with (CallLine layers act) t) h.1 c)
calls_less limits (f ∷ fs) t h c = absurd h

-- the same where these are what lines tell that differ in groups alone
same_counts : (limits : Limits) (t u : Told) → u.tasks ≡ t.tasks → u.bitmap_names ≡ t.bitmap_names → u.pattern_names ≡ t.pattern_names → u.names ≡ t.names → u.supers ≡ t.supers → u.calls_in_task ≡ t.calls_in_task → AreCounted limits u → AreCounted limits t
same_counts limits t u a b c d e f k =
    let tasks = ap length a in
    let bitmaps = ap length b in
    let patterns = ap length c in
    let names = ap length d in
    record {
      tasks = omega (arith, tasks, k.tasks);
      bitmaps = omega (arith, bitmaps, k.bitmaps);
      patterns = omega (arith, patterns, k.patterns);
      names = omega (arith, names, k.names);
      supers = omega (arith, e, k.supers);
      calls = omega (arith, f, k.calls);
    }

module _ (s : Setting) where
  -- such a call is good
  held_good : (new : List Statement) (layers : List (List ℕ)) (act : Act) → IsHeldHere (told new) → IsHeldCall layers act → AreCounted (limits_of (told new).version) (told (CallLine layers act ∷ new)) → IsGoodLine s new (CallLine layers act)
  held_good new layers act m h few =
      let P : Option OpenGroup → Type 0 = λ o. group_allows o layers act ≡ true in
      let Q : Option ℤ → Type 0 = λ o. is_no_hook s.hooks o ≡ false in
      let R : Option ℤ → Type 0 = λ o. is_hook_named (told new).names_hook o ≡ false in
      let tested : IsStatementTested s new (CallLine layers act) =
      record { range = h.range; named = h.named (told new).bitmap_names; new = refl; group = subst P (sym m.group) h.all; few = counted_few _ _ few; hook = subst Q (sym h.hook) refl; unused = subst R (sym h.hook) refl; padding = refl } in
      record { here = (m.rows, m.calls, (h.long, h.made), h.known (told new).version); tested = tests_pass s new (CallLine layers act) tested }

  -- so are several
  held_all_good : (new : List Statement) (fs : List Statement) → IsHeldHere (told new) → AreHeldCalls fs → AreCounted (limits_of (told new).version) (told_all fs (told new)) → AreGoodLines s new → AreGoodLines s (added fs new)
  held_all_good new [] m h few g = g
  held_all_good new (CallLine layers act ∷ fs) m h few g =
      let first = held_good new layers act m h.0 (calls_less _ fs (told (CallLine layers act ∷ new)) h.1 few) in
      let still : IsHeldHere (told (CallLine layers act ∷ new)) = record { rows = m.rows; calls = m.calls; group = h.0.open_ (told new).group ∙ m.group } in
      held_all_good (CallLine layers act ∷ new) fs still h.1 few (first, g)
  held_all_good new (f ∷ fs) m h few g = absurd h

  -- so is the beginning of the group, where none is open
  hold_good : (above : List Statement) → ((told above).rows_due == 0) ≡ true → are_calls_due (told above).section ≡ true → is_none (told above).group ≡ true → AreCounted (limits_of (told above).version) (told above) → IsGoodLine s above HoldLine
  hold_good above rows calls none few =
      let tested : IsStatementTested s above HoldLine =
      record { range = refl; named = refl; new = refl; group = none; few = counted_few _ _ (same_counts _ (told (HoldLine ∷ above)) (told above) refl refl refl refl refl refl few); hook = refl; unused = refl; padding = refl } in
      record { here = (rows, calls, tt, refl); tested = tests_pass s above HoldLine tested }

  -- and its end after a call
  release_good : (new : List Statement) → IsHeldHere (told new) → (told new).calls_before_group < (told new).calls_in_task → AreCounted (limits_of (told new).version) (told new) → IsGoodLine s new ReleaseLine
  release_good new m some few =
      let ends = and_from _ _ (ap is_hold m.group) (lt-ltb _ _ some) in
      let tested : IsStatementTested s new ReleaseLine =
      record { range = refl; named = refl; new = refl; group = ends; few = counted_few _ _ (same_counts _ (told (ReleaseLine ∷ new)) (told new) refl refl refl refl refl refl few); hook = refl; unused = refl; padding = refl } in
      record { here = (m.rows, m.calls, tt, refl); tested = tests_pass s new ReleaseLine tested }

  -- a window that is made
  pair_good : (new : List Statement) (outer inner : List ℕ) → ((told new).rows_due == 0) ≡ true → are_calls_due (told new).section ≡ true → AreCounted (limits_of (told new).version) (told new) → IsGoodLine s new (PairMade outer inner)
  pair_good new outer inner rows calls few =
      let tested : IsStatementTested s new (PairMade outer inner) =
      record { range = refl; named = refl; new = refl; group = refl; few = counted_few _ _ (same_counts _ (told (PairMade outer inner ∷ new)) (told new) refl refl refl refl refl refl few); hook = refl; unused = refl; padding = refl } in
      record { here = (rows, calls, tt, refl); tested = tests_pass s new (PairMade outer inner) tested }

  -- The statements of what is done with a window of two layers are good where it passes its tests.
  group_good : (above : List Statement) (fs : List Statement) → ((told above).rows_due == 0) ≡ true → are_calls_due (told above).section ≡ true → is_none (told above).group ≡ true → AreHeldCalls fs → 0 < length fs → AreCounted (limits_of (told above).version) (told_all (fs ++ ReleaseLine ∷ []) (told (HoldLine ∷ above))) → AreGoodLines s above → AreGoodLines s (added (HoldLine ∷ fs ++ ReleaseLine ∷ []) above)
  group_good above fs rows calls none h some few g =
      let limits : Limits = limits_of (told above).version in
      let held : List Statement = HoldLine ∷ above in
      let whole : AreCounted limits (told_with ReleaseLine (told_all fs (told held))) =
      subst (AreCounted limits) (told_parts fs (ReleaseLine ∷ []) (told held)) few in
      let before = same_counts limits (told_all fs (told held)) (told_with ReleaseLine (told_all fs (told held))) refl refl refl refl refl refl whole in
      let begun = calls_less limits fs (told held) h before in
      let first : IsGoodLine s above HoldLine = hold_good above rows calls none (same_counts limits (told above) (told held) refl refl refl refl refl refl begun) in
      let here : IsHeldHere (told held) = record { rows = rows; calls = calls; group = refl } in
      let inside = held_all_good held fs here h before (first, g) in
      let same = told_added fs held in
      let k = held_tell fs (told held) h in
      let version : (told above).version ≡ (told (added fs held)).version = sym (ap (λ (t : Told). t.version) same ∙ k.version) in
      let P : Told → Type 0 = λ t. AreCounted limits t in
      let Q : ℕ → Type 0 = λ v. AreCounted (limits_of v) (told (added fs held)) in
      let counts : AreCounted (limits_of (told (added fs held)).version) (told (added fs held)) = subst Q version (subst P (sym same) before) in
      let calls_before_group : (told (added fs held)).calls_before_group ≡ (told above).calls_in_task = ap (λ (t : Told). t.calls_before_group) same ∙ k.calls_before_group in
      let calls_in_task : (told (added fs held)).calls_in_task ≡ (told above).calls_in_task + length fs = ap (λ (t : Told). t.calls_in_task) same ∙ k.calls_in_task in
      let still : IsHeldHere (told (added fs held)) =
      record {
        rows = ap (λ (t : Told). t.rows_due == 0) same ∙ ap (λ (n : ℕ). n == 0) k.rows ∙ rows;
        calls = ap (λ (t : Told). are_calls_due t.section) same ∙ ap are_calls_due k.section ∙ calls;
        group = ap (λ (t : Told). t.group) same ∙ k.group;
      } in
      let ended = release_good (added fs held) still (omega (arith, calls_before_group, calls_in_task, some)) counts in
      subst (AreGoodLines s) (sym (added_parts fs (ReleaseLine ∷ []) held)) (ended, inside)

-- the screen below which tasks stand is small
screen_small : (s : Setting) (above : List Statement) → AreGoodLines s above → are_calls_due (told above).section ≡ true → ((told above).width ≤ 32767) × ((told above).height ≤ 32767)
screen_small s above g calls =
    let k = when (has_screen (told above).section) _ (ap has_screen (in_calls (told above).section calls)) (sized s above g) in
    let most = screen_at_most (told above).version in
    (omega (arith, most, k.sizes.columns.1), omega (arith, most, k.sizes.rows.1))

-- there are some calls
some_calls : (g i : List ℕ) (act : GzzAct) → 0 < length (gzz_calls g i act)
some_calls g i (OpenGzz inner kind place r classes title) = omega arith
some_calls g i (BoxGzz r) = omega arith
some_calls g i FrontGzz = omega arith
some_calls g i BehindGzz = omega arith
some_calls g i (InFrontGzz m) = omega arith
some_calls g i CloseGzz = omega arith

-- What a line does with a window of two layers stands for good statements where it passes its tests.
pub gzz_good : (s : Setting) (above : List Statement) (g : List ℕ) (act : GzzAct) → IsGzzHere above act → gzz_tested (told above) g act ≡ Ok tt → AreGoodLines s above → AreGoodLines s (added (stands_for (told above) (GzzLine g act)) above)
gzz_good s above g act h e good =
    let t = gzz_passed (told above) g act e in
    let small = screen_small s above good h.calls in
    let limits : Limits = limits_of (told above).version in
    go act (calls_held (told above).width (told above).height g (inner_by (told above).pairs g act) act small.0 small.1 h.made t.range) (some_calls g (inner_by (told above).pairs g act) act) (few_counted limits _ t.few) t.group
  where
    go : (act : GzzAct) → AreHeldCalls (gzz_calls g (inner_by (told above).pairs g act) act) → 0 < length (gzz_calls g (inner_by (told above).pairs g act) act) → AreCounted (limits_of (told above).version) (told_all (stands_for (told above) (GzzLine g act)) (told above)) → is_none (told above).group ≡ true → AreGoodLines s (added (stands_for (told above) (GzzLine g act)) above)
    go (OpenGzz inner kind place r classes title) calls some few none =
        let fs : List Statement = gzz_calls g inner (OpenGzz inner kind place r classes title) in
        let new : List Statement = added (HoldLine ∷ fs ++ ReleaseLine ∷ []) above in
        let before : AreCounted (limits_of (told above).version) (told new) = same_counts (limits_of (told above).version) (told new) (told (PairMade g inner ∷ new)) refl refl refl refl refl refl few in
        (pair_good s new g inner h.rows h.calls before, group_good s above fs h.rows h.calls none calls some before good)
    go (BoxGzz r) calls some few none = group_good s above (gzz_calls g (inner_by (told above).pairs g (BoxGzz r)) (BoxGzz r)) h.rows h.calls none calls some few good
    go FrontGzz calls some few none = group_good s above (gzz_calls g (inner_by (told above).pairs g FrontGzz) FrontGzz) h.rows h.calls none calls some few good
    go BehindGzz calls some few none = group_good s above (gzz_calls g (inner_by (told above).pairs g BehindGzz) BehindGzz) h.rows h.calls none calls some few good
    go (InFrontGzz m) calls some few none = group_good s above (gzz_calls g (inner_by (told above).pairs g (InFrontGzz m)) (InFrontGzz m)) h.rows h.calls none calls some few good
    go CloseGzz calls some few none = group_good s above (gzz_calls g (inner_by (told above).pairs g CloseGzz) CloseGzz) h.rows h.calls none calls some few good
