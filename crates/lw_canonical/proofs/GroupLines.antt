-- The lines of a task's calls with those that begin and end its groups, as they grow with the task.
use Rattle.std.proofs.Common.{◌≡◌, ℕ, suc, ◌+◌, ◌-◌, ◌<◌, ◌≤◌, ◌==◌, Bool, true, false, not, cond, ◌&&◌, ◌||◌, nat_le, nat_lt, List, [], ◌∷◌, ◌++◌, length, take, drop, Option, Some, None, is_some, refl, sym, ap, ap₂, ◌∙◌, arith, append-nil, append_assoc, length-append, length-drop}
use Rattle.std.specs.List.{list_all}
use Rattle.lw_calls.specs.declared.pair.Pair.{Pair}
use Rattle.lw_calls.specs.declared.call.Call.{Call}
use Rattle.lw_calls.specs.declared.group.Hold.{Hold}
use Rattle.lw_calls.specs.declared.group.Hold.TheVariants.{Slot}
use Rattle.lw_calls.specs.declared.group.Group.{Group}
use Rattle.lw_calls.specs.Touches.{slots_of}
use Rattle.lw_calls.specs.Plan.{Plan, is_one, begins_update, may_be_locked, group_calls, group_fits, groups_fit}
use Rattle.lw_gzz.specs.declared.word.GzzWord.{GzzWord}
use Rattle.lw_grammar.specs.Statements.{Statement, LockLine, HoldLine, Line, StatementLine}
use Rattle.lw_grammar.specs.Told.{OpenGroup, Locked, Updating, Held}
use Rattle.lw_canonical.specs.Canonical.{line_of_call, are_updating, is_update, word_held, word_for, line_of_word, or_opening, or_closing, opening_lines, closing_lines, lines_opening, lines_closing, lines_before, lines_after, is_of_word, lines_at, lines_from}
use Rattle.lw_grammar.proofs.ScriptTasks.{IsUpdating}
use Rattle.std.proofs.lemmas.Bool.{not-true, ne_eqb, eq-eqb, leb-true, ltb-true, le-leb, and_parts, or_from, or_right}
use Rattle.std.proofs.lemmas.List.{take-append-le, drop-append-le}
use Rattle.std.proofs.lemmas.List.Folds.{list_any-append}
use Rattle.std.proofs.lemmas.Grind.{flat_map-append}

-- The lines of calls by their numbers from n on, with what stands before and after each.
abbrev pub woven : (ℕ → List Line) → (ℕ → Call → List Line) → (ℕ → List Line) → ℕ → List Call → List Line
woven before middle behind n [] = []
woven before middle behind n (x ∷ xs) = before n ++ middle n x ++ behind n ++ woven before middle behind (n + 1) xs

-- they are the same where the same stands before, at and after each
woven_same : (a b : ℕ → List Line) (m k : ℕ → Call → List Line) (c d : ℕ → List Line) (n : ℕ) (xs : List Call) → ((i : ℕ) → n ≤ i → i < n + length xs → a i ≡ b i) → ((i : ℕ) (x : Call) → n ≤ i → i < n + length xs → m i x ≡ k i x) → ((i : ℕ) → n ≤ i → i < n + length xs → c i ≡ d i) → woven a m c n xs ≡ woven b k d n xs
woven_same a b m k c d n [] f g h = refl
woven_same a b m k c d n (x ∷ xs) f g h =
    let front : a n ≡ b n = f n (omega arith) (omega arith) in
    let middle : m n x ≡ k n x = g n x (omega arith) (omega arith) in
    let back : c n ≡ d n = h n (omega arith) (omega arith) in
    let rest = woven_same a b m k c d (n + 1) xs (λ i low high. f i (omega arith) (omega arith)) (λ i y low high. g i y (omega arith) (omega arith)) (λ i low high. h i (omega arith) (omega arith)) in
    λ i. front i ++ middle i ++ back i ++ rest i

-- in two parts
woven_parts : (a : ℕ → List Line) (m : ℕ → Call → List Line) (c : ℕ → List Line) (n : ℕ) (xs ys : List Call) (k : ℕ) → n + length xs ≡ k → woven a m c n (xs ++ ys) ≡ woven a m c n xs ++ woven a m c k ys
woven_parts a m c n [] ys k e =
    let here : n ≡ k = omega arith in
    ap (λ i. woven a m c i ys) here
woven_parts a m c n (x ∷ xs) ys k e =
    ap (λ (t : List Line). (a n ++ m n x ++ c n) ++ t) (woven_parts a m c (n + 1) xs ys k (omega arith)) ∙ sym (append_assoc (a n ++ m n x ++ c n) (woven a m c (n + 1) xs) (woven a m c k ys))

-- one call more
woven_push : (a : ℕ → List Line) (m : ℕ → Call → List Line) (c : ℕ → List Line) (n : ℕ) (xs : List Call) (x : Call) (k : ℕ) → n + length xs ≡ k → woven a m c n (xs ++ x ∷ []) ≡ woven a m c n xs ++ (a k ++ m k x ++ c k)
woven_push a m c n xs x k e =
    woven_parts a m c n xs (x ∷ []) k e ∙ ap (λ (t : List Line). woven a m c n xs ++ t) (append-nil (a k ++ m k x ++ c k))

-- nothing
woven_none : (a : ℕ → List Line) (m : ℕ → Call → List Line) (c : ℕ → List Line) (n : ℕ) (xs : List Call) → ((i : ℕ) → n ≤ i → i < n + length xs → a i ≡ []) → ((i : ℕ) (x : Call) → n ≤ i → i < n + length xs → m i x ≡ []) → ((i : ℕ) → n ≤ i → i < n + length xs → c i ≡ []) → woven a m c n xs ≡ []
woven_none a m c n [] f g h = refl
woven_none a m c n (x ∷ xs) f g h =
    let front : a n ≡ [] = f n (omega arith) (omega arith) in
    let middle : m n x ≡ [] = g n x (omega arith) (omega arith) in
    let back : c n ≡ [] = h n (omega arith) (omega arith) in
    let rest = woven_none a m c (n + 1) xs (λ i low high. f i (omega arith) (omega arith)) (λ i y low high. g i y (omega arith) (omega arith)) (λ i low high. h i (omega arith) (omega arith)) in
    λ i. front i ++ middle i ++ back i ++ rest i

-- lines where two numbers are the same, and where they aren't
if_same : (a b : ℕ) (xs : List Line) → a ≡ b → cond (a == b) xs [] ≡ xs
if_same a b xs e = ap (λ t. cond t xs []) (eq-eqb a b e)

if_apart : (a b : ℕ) (xs : List Line) → (a ≡ b → ⊥) → cond (a == b) xs [] ≡ []
if_apart a b xs e = ap (λ t. cond t xs []) (ne_eqb a b e)

-- more lines after the last one
woven_last : (a : ℕ → List Line) (m : ℕ → Call → List Line) (c : ℕ → List Line) (n : ℕ) (xs : List Call) (more : List Line) (last : ℕ) → n + length xs ≡ suc last → 0 < length xs → woven a m (λ i. c i ++ cond (last == i) more []) n xs ≡ woven a m c n xs ++ more
woven_last a m c n [] more last e some = absurd (omega arith)
woven_last a m c n (x ∷ []) more last e some =
    let here : last ≡ n = omega arith in
    append-nil _ ∙ ap (λ (t : List Line). (a n ++ m n x) ++ (c n ++ t)) (if_same last n more here) ∙ sym (append_assoc (a n ++ m n x) (c n) more) ∙ ap (λ (t : List Line). t ++ more) (sym (append-nil (a n ++ m n x ++ c n)))
woven_last a m c n (x ∷ y ∷ ys) more last e some =
    let off : cond (last == n) more [] ≡ [] = if_apart last n more (λ same. omega arith) in
    ap₂ (λ (u v : List Line). ((a n ++ m n x) ++ u) ++ v) (ap (λ (t : List Line). c n ++ t) off ∙ append-nil (c n)) (woven_last a m c (n + 1) (y ∷ ys) more last (omega arith) (omega arith)) ∙
    sym (append_assoc (a n ++ m n x ++ c n) (woven a m c (n + 1) (y ∷ ys)) more)

-- each group begins and ends before this call
abbrev pub AreInside : ℕ → List Group → Type 0
AreInside n [] = Unit {0}
AreInside n (g ∷ gs) = (g.first < n) × (g.last < n) × AreInside n gs

-- groups that fit do
group_inside : (calls : List Call) (g : Group) → group_fits calls g ≡ true → (g.first < length calls) × (g.last < length calls)
group_inside calls g h =
    let halves = and_parts (nat_le g.first g.last && nat_lt g.last (length calls)) _ h in
    let bounds = and_parts (nat_le g.first g.last) _ halves.0 in
    let order : g.first ≤ g.last = leb-true _ _ bounds.0 in
    let low : g.last < length calls = ltb-true _ _ bounds.1 in
    (omega arith, low)

pub groups_inside : (calls : List Call) (gs : List Group) → groups_fit calls gs ≡ true → AreInside (length calls) gs
groups_inside calls [] h = tt
groups_inside calls (g ∷ []) h = let one = group_inside calls g h in (one.0, one.1, tt)
groups_inside calls (g ∷ j ∷ gs) h =
    let halves = and_parts (group_fits calls g && nat_lt g.last j.first) _ h in
    let one = group_inside calls g (and_parts (group_fits calls g) _ halves.0).0 in
    (one.0, one.1, groups_inside calls (j ∷ gs) halves.1)

-- calls begin an update whatever stands after them
updating_more : (xs more : List Call) → 0 < length xs → are_updating (xs ++ more) ≡ are_updating xs
updating_more [] more some = absurd (omega arith)
updating_more (x ∷ xs) more some = refl

update_kept : (calls more : List Call) (g : Group) → g.first < length calls → is_update (calls ++ more) g ≡ is_update calls g
update_kept calls more g low =
    let long : length (drop g.first calls) ≡ length calls - g.first = length-drop g.first calls in
    ap are_updating (drop-append-le g.first calls more (omega arith)) ∙ updating_more (drop g.first calls) more (omega arith)

-- the calls of a group are the same whatever stands after them
calls_kept : (calls more : List Call) (g : Group) → g.first < length calls → g.last < length calls → group_calls (calls ++ more) g ≡ group_calls calls g
calls_kept calls more g low high =
    let long : length (drop g.first calls) ≡ length calls - g.first = length-drop g.first calls in
    ap (take ((g.last + 1) - g.first)) (drop-append-le g.first calls more (omega arith)) ∙ take-append-le ((g.last + 1) - g.first) (drop g.first calls) more (omega arith)

word_kept : (pairs : List Pair) (calls more : List Call) (g : Group) → g.first < length calls → g.last < length calls → word_for pairs (calls ++ more) g ≡ word_for pairs calls g
word_kept pairs calls more g low high = ap (λ (cs : List Call). word_held pairs cs g.hold) (calls_kept calls more g low high)

-- locked calls begin none, and those of an update do
pub locked_begin_none : (s : ℕ) (xs : List Call) → list_all (may_be_locked s) xs ≡ true → are_updating xs ≡ false
locked_begin_none s [] h = refl
locked_begin_none s (x ∷ xs) h =
    let first = and_parts (may_be_locked s x) _ h in
    let parts = and_parts (is_one s (slots_of x)) _ first.0 in
    not-true _ (and_parts (not (begins_update x)) _ parts.1).0

pub update_begins : (s : ℕ) (xs : List Call) (c : Call) → IsUpdating s xs → are_updating (xs ++ c ∷ []) ≡ true
update_begins s [] c h = absurd h
update_begins s (x ∷ xs) c h = (and_parts (is_one s (slots_of x)) _ h.0).1

-- the lines that opened the group that is open: an update has none but its calls
abbrev pub open_group_lines : Option OpenGroup → List Line
open_group_lines None = []
open_group_lines (Some (Locked l)) = StatementLine (LockLine l) ∷ []
open_group_lines (Some (Updating l)) = []
open_group_lines (Some Held) = StatementLine HoldLine ∷ []

-- those before call number n
abbrev pub open_group_before : Option OpenGroup → ℕ → ℕ → List Line
open_group_before o calls_before_group n = cond (calls_before_group == n) (open_group_lines o) []

-- the same lines, whatever the test
cond_none : (t : Bool) (xs : List Line) → cond t xs xs ≡ xs
cond_none true xs = refl
cond_none false xs = refl

-- a test of numbers that isn't met
not_within : (first n last : ℕ) (word : Bool) → last < n → ((nat_le first n && nat_le n last) && word) ≡ false
not_within first n last word high = go (nat_le first n) (nat_le n last) refl
  where
    go : (a b : Bool) → nat_le n last ≡ b → ((a && b) && word) ≡ false
    go a true e = let low : n ≤ last = leb-true n last e in absurd (omega arith)
    go true false e = refl
    go false false e = refl

-- The lines of a plan's calls and groups.
module _ (p : Plan) where
  -- a task's lines, where no group is open
  abbrev pub closed_lines : List Call → List Group → List Line
  closed_lines calls groups = woven (lines_before p calls groups) (lines_at p calls groups) (lines_after p calls groups) 0 calls

  -- a task's lines so far, where this group is open and began before its call of this number, or none is
  abbrev pub lines_so_far : Option OpenGroup → ℕ → List Call → List Group → List Line
  lines_so_far o calls_before_group calls groups =
      woven (λ m. lines_before p calls groups m ++ open_group_before o calls_before_group m) (lines_at p calls groups) (lines_after p calls groups) 0 calls ++ open_group_before o calls_before_group (length calls)

  -- further calls leave what stands before, at and after the others
  before_kept : (calls more : List Call) (gs : List Group) (m : ℕ) → AreInside (length calls) gs → lines_before p (calls ++ more) gs m ≡ lines_before p calls gs m
  before_kept calls more [] m h = refl
  before_kept calls more (g ∷ gs) m h =
      ap₂ (λ (x y : List Line). x ++ y) (ap₂ (λ (w : Option (Pair × GzzWord)) (t : Bool). cond (g.first == m) (or_opening p.slot_names w (opening_lines p.slot_names g.hold t)) []) (word_kept p.pairs calls more g h.0 h.1) (update_kept calls more g h.0)) (before_kept calls more gs m h.2)

  behind_kept : (calls more : List Call) (gs : List Group) (m : ℕ) → AreInside (length calls) gs → lines_after p (calls ++ more) gs m ≡ lines_after p calls gs m
  behind_kept calls more [] m h = refl
  behind_kept calls more (g ∷ gs) m h =
      ap₂ (λ (x y : List Line). x ++ y) (ap₂ (λ (w : Option (Pair × GzzWord)) (t : Bool). cond (g.last == m) (or_closing w (closing_lines p.slot_names g.hold t)) []) (word_kept p.pairs calls more g h.0 h.1) (update_kept calls more g h.0)) (behind_kept calls more gs m h.2)

  of_word_kept : (calls more : List Call) (gs : List Group) (m : ℕ) → AreInside (length calls) gs → is_of_word p (calls ++ more) gs m ≡ is_of_word p calls gs m
  of_word_kept calls more [] m h = refl
  of_word_kept calls more (g ∷ gs) m h =
      ap₂ (λ (x y : Bool). x || y) (ap (λ (w : Option (Pair × GzzWord)). (nat_le g.first m && nat_le m g.last) && is_some w) (word_kept p.pairs calls more g h.0 h.1)) (of_word_kept calls more gs m h.2)

  at_kept : (calls more : List Call) (gs : List Group) (m : ℕ) (x : Call) → AreInside (length calls) gs → lines_at p (calls ++ more) gs m x ≡ lines_at p calls gs m x
  at_kept calls more gs m x h = ap (λ t. cond t [] (StatementLine (line_of_call p.slot_names p.bitmap_names x) ∷ [])) (of_word_kept calls more gs m h)

  -- nothing stands at a call after all groups, which is of none
  before_none : (calls : List Call) (gs : List Group) (n m : ℕ) → AreInside n gs → n ≤ m → lines_before p calls gs m ≡ []
  before_none calls [] n m h k = refl
  before_none calls (g ∷ gs) n m h k =
      let first : g.first < n = h.0 in
      ap₂ (λ (x y : List Line). x ++ y) (if_apart g.first m _ (λ e. omega arith)) (before_none calls gs n m h.2 k)

  behind_none : (calls : List Call) (gs : List Group) (n m : ℕ) → AreInside n gs → n ≤ m → lines_after p calls gs m ≡ []
  behind_none calls [] n m h k = refl
  behind_none calls (g ∷ gs) n m h k =
      let last : g.last < n = h.1 in
      ap₂ (λ (x y : List Line). x ++ y) (if_apart g.last m _ (λ e. omega arith)) (behind_none calls gs n m h.2 k)

  of_no_word : (calls : List Call) (gs : List Group) (n m : ℕ) → AreInside n gs → n ≤ m → is_of_word p calls gs m ≡ false
  of_no_word calls [] n m h k = refl
  of_no_word calls (g ∷ gs) n m h k =
      let last : g.last < n = h.1 in
      or_from _ _ (not_within g.first m g.last (is_some (word_for p.pairs calls g)) (omega arith)) (of_no_word calls gs n m h.2 k)

  -- so it has its own line
  at_own : (calls : List Call) (gs : List Group) (n m : ℕ) (x : Call) → AreInside n gs → n ≤ m → lines_at p calls gs m x ≡ StatementLine (line_of_call p.slot_names p.bitmap_names x) ∷ []
  at_own calls gs n m x h k = ap (λ t. cond t [] (StatementLine (line_of_call p.slot_names p.bitmap_names x) ∷ [])) (of_no_word calls gs n m h k)

  -- one group more
  before_pushed : (calls : List Call) (gs : List Group) (g : Group) (m : ℕ) → lines_before p calls (gs ++ g ∷ []) m ≡ lines_before p calls gs m ++ cond (g.first == m) (lines_opening p calls g) []
  before_pushed calls gs g m =
      flat_map-append (λ k. cond (k.first == m) (lines_opening p calls k) []) gs (g ∷ []) ∙ ap (λ (t : List Line). lines_before p calls gs m ++ t) (append-nil _)

  behind_pushed : (calls : List Call) (gs : List Group) (g : Group) (m : ℕ) → lines_after p calls (gs ++ g ∷ []) m ≡ lines_after p calls gs m ++ cond (g.last == m) (lines_closing p calls g) []
  behind_pushed calls gs g m =
      flat_map-append (λ k. cond (k.last == m) (lines_closing p calls k) []) gs (g ∷ []) ∙ ap (λ (t : List Line). lines_after p calls gs m ++ t) (append-nil _)

  of_word_pushed : (calls : List Call) (gs : List Group) (g : Group) (m : ℕ) → is_of_word p calls (gs ++ g ∷ []) m ≡ (is_of_word p calls gs m || (((nat_le g.first m && nat_le m g.last) && is_some (word_for p.pairs calls g)) || false))
  of_word_pushed calls gs g m = list_any-append (λ k. (nat_le k.first m && nat_le m k.last) && is_some (word_for p.pairs calls k)) gs (g ∷ [])

  -- a group that stands for no word leaves each call its line
  at_pushed : (calls : List Call) (gs : List Group) (g : Group) (m : ℕ) (x : Call) → word_for p.pairs calls g ≡ None → lines_at p calls (gs ++ g ∷ []) m x ≡ lines_at p calls gs m x
  at_pushed calls gs g m x none =
      let same : is_of_word p calls (gs ++ g ∷ []) m ≡ is_of_word p calls gs m = of_word_pushed calls gs g m ∙ (ap (λ (w : Option (Pair × GzzWord)). is_of_word p calls gs m || (((nat_le g.first m && nat_le m g.last) && is_some w) || false)) none ∙ no_more (is_of_word p calls gs m) (nat_le g.first m && nat_le m g.last)) in
      ap (λ t. cond t [] (StatementLine (line_of_call p.slot_names p.bitmap_names x) ∷ [])) same
    where
      no_more : (a b : Bool) → (a || ((b && false) || false)) ≡ a
      no_more true b = refl
      no_more false true = refl
      no_more false false = refl

  -- nothing was opened where no group is open
  pub none_before : (calls_before_group m : ℕ) → open_group_before None calls_before_group m ≡ []
  none_before calls_before_group m = cond_none (calls_before_group == m) []

  -- The lines of one call more, where what stands at the others is the same.
  more_line : (o q : Option OpenGroup) (calls_before_group now : ℕ) (calls : List Call) (groups gs : List Group) (c : Call) (f : Statement) → line_of_call p.slot_names p.bitmap_names c ≡ f → ((m : ℕ) → m < length calls → lines_before p (calls ++ c ∷ []) gs m ++ open_group_before q now m ≡ lines_before p calls groups m ++ open_group_before o calls_before_group m) → lines_before p (calls ++ c ∷ []) gs (length calls) ++ open_group_before q now (length calls) ≡ open_group_before o calls_before_group (length calls) → ((m : ℕ) (x : Call) → m < length calls → lines_at p (calls ++ c ∷ []) gs m x ≡ lines_at p calls groups m x) → lines_at p (calls ++ c ∷ []) gs (length calls) c ≡ StatementLine (line_of_call p.slot_names p.bitmap_names c) ∷ [] → ((m : ℕ) → m < length calls → lines_after p (calls ++ c ∷ []) gs m ≡ lines_after p calls groups m) → lines_after p (calls ++ c ∷ []) gs (length calls) ≡ [] → open_group_before q now (length calls + 1) ≡ [] → lines_so_far q now (calls ++ c ∷ []) gs ≡ lines_so_far o calls_before_group calls groups ++ StatementLine f ∷ []
  more_line o q calls_before_group now calls groups gs c f line before first middle own behind last end =
      let a : ℕ → List Line = λ m. lines_before p (calls ++ c ∷ []) gs m ++ open_group_before q now m in
      let b : ℕ → List Line = λ m. lines_before p calls groups m ++ open_group_before o calls_before_group m in
      let old : List Line = woven b (lines_at p calls groups) (lines_after p calls groups) 0 calls in
      let opened : List Line = open_group_before o calls_before_group (length calls) in
      let pushed = woven_push a (lines_at p (calls ++ c ∷ []) gs) (lines_after p (calls ++ c ∷ []) gs) 0 calls c (length calls) (omega arith) in
      let same : woven a (lines_at p (calls ++ c ∷ []) gs) (lines_after p (calls ++ c ∷ []) gs) 0 calls ≡ old = woven_same a b (lines_at p (calls ++ c ∷ []) gs) (lines_at p calls groups) (lines_after p (calls ++ c ∷ []) gs) (lines_after p calls groups) 0 calls (λ m low high. before m (omega arith)) (λ m x low high. middle m x (omega arith)) (λ m low high. behind m (omega arith)) in
      let mine : lines_at p (calls ++ c ∷ []) gs (length calls) c ≡ StatementLine f ∷ [] = own ∙ ap (λ (g : Statement). StatementLine g ∷ []) line in
      let here : a (length calls) ++ lines_at p (calls ++ c ∷ []) gs (length calls) c ++ lines_after p (calls ++ c ∷ []) gs (length calls) ≡ opened ++ StatementLine f ∷ [] =
      ap₂ (λ (x y : List Line). x ++ y) (ap₂ (λ (x y : List Line). x ++ y) first mine) last ∙ append-nil (opened ++ StatementLine f ∷ []) in
      let tail : open_group_before q now (length (calls ++ c ∷ [])) ≡ [] = ap (open_group_before q now) (length-append calls (c ∷ [])) ∙ end in
      ap₂ (λ (x y : List Line). x ++ y) (pushed ∙ ap₂ (λ (x y : List Line). x ++ y) same here) tail ∙ append-nil (old ++ (opened ++ StatementLine f ∷ [])) ∙ sym (append_assoc old opened (StatementLine f ∷ []))

  -- A group begins at the next call.
  pub group_begun : (l : OpenGroup) (calls_before_group : ℕ) (calls : List Call) (groups : List Group) → lines_so_far (Some l) (length calls) calls groups ≡ lines_so_far None calls_before_group calls groups ++ open_group_lines (Some l)
  group_begun l calls_before_group calls groups =
      let a : ℕ → List Line = λ m. lines_before p calls groups m ++ open_group_before (Some l) (length calls) m in
      let b : ℕ → List Line = λ m. lines_before p calls groups m ++ open_group_before None calls_before_group m in
      let old : List Line = woven b (lines_at p calls groups) (lines_after p calls groups) 0 calls in
      let same : woven a (lines_at p calls groups) (lines_after p calls groups) 0 calls ≡ old = woven_same a b (lines_at p calls groups) (lines_at p calls groups) (lines_after p calls groups) (lines_after p calls groups) 0 calls (λ m low high. ap (λ (t : List Line). lines_before p calls groups m ++ t) (if_apart (length calls) m (open_group_lines (Some l)) (λ e. omega arith) ∙ sym (none_before calls_before_group m))) (λ m x low high. refl) (λ m low high. refl) in
      ap₂ (λ (x y : List Line). x ++ y) same (if_same (length calls) (length calls) (open_group_lines (Some l)) refl) ∙ ap (λ (t : List Line). t ++ open_group_lines (Some l)) (sym (ap (λ (t : List Line). old ++ t) (none_before calls_before_group (length calls)) ∙ append-nil old))

  -- The open group, which stands for no word, ends with the last call.
  pub group_ended : (o : Option OpenGroup) (calls : List Call) (groups : List Group) (g : Group) (more : List Line) → suc g.last ≡ length calls → g.first < length calls → word_for p.pairs calls g ≡ None → opening_lines p.slot_names g.hold (is_update calls g) ≡ open_group_lines o → closing_lines p.slot_names g.hold (is_update calls g) ≡ more → lines_so_far None g.first calls (groups ++ g ∷ []) ≡ lines_so_far o g.first calls groups ++ more
  group_ended o calls groups g more end low none opening closing =
      let a : ℕ → List Line = λ m. lines_before p calls (groups ++ g ∷ []) m ++ open_group_before None g.first m in
      let b : ℕ → List Line = λ m. lines_before p calls groups m ++ open_group_before o g.first m in
      let c : ℕ → List Line = λ m. lines_after p calls groups m ++ cond (g.last == m) more [] in
      let old : List Line = woven b (lines_at p calls groups) (lines_after p calls groups) 0 calls in
      let opens : lines_opening p calls g ≡ open_group_lines o = ap (λ (w : Option (Pair × GzzWord)). or_opening p.slot_names w (opening_lines p.slot_names g.hold (is_update calls g))) none ∙ opening in
      let closes : lines_closing p calls g ≡ more = ap (λ (w : Option (Pair × GzzWord)). or_closing w (closing_lines p.slot_names g.hold (is_update calls g))) none ∙ closing in
      let before : (m : ℕ) → a m ≡ b m = λ m. ap₂ (λ (x y : List Line). x ++ y) (before_pushed calls groups g m ∙ ap (λ (t : List Line). lines_before p calls groups m ++ cond (g.first == m) t []) opens) (none_before g.first m) ∙ append-nil (b m) in
      let behind : (m : ℕ) → lines_after p calls (groups ++ g ∷ []) m ≡ c m = λ m. behind_pushed calls groups g m ∙ ap (λ (t : List Line). lines_after p calls groups m ++ cond (g.last == m) t []) closes in
      let same = woven_same a b (lines_at p calls (groups ++ g ∷ [])) (lines_at p calls groups) (lines_after p calls (groups ++ g ∷ [])) c 0 calls (λ m u v. before m) (λ m x u v. at_pushed calls groups g m x none) (λ m u v. behind m) in
      let last = woven_last b (lines_at p calls groups) (lines_after p calls groups) 0 calls more g.last (omega arith) (omega arith) in
      let off : open_group_before o g.first (length calls) ≡ [] = if_apart g.first (length calls) (open_group_lines o) (λ e. omega arith) in
      ap₂ (λ (x y : List Line). x ++ y) (same ∙ last) (none_before g.first (length calls)) ∙ append-nil (old ++ more) ∙ ap (λ (t : List Line). t ++ more) (sym (ap (λ (t : List Line). old ++ t) off ∙ append-nil old))

  -- Where no group is open, the lines so far are those of the calls and groups.
  pub lines_closed : (calls_before_group : ℕ) (calls : List Call) (groups : List Group) → lines_so_far None calls_before_group calls groups ≡ closed_lines calls groups
  lines_closed calls_before_group calls groups =
      let a : ℕ → List Line = λ m. lines_before p calls groups m ++ open_group_before None calls_before_group m in
      let same = woven_same a (lines_before p calls groups) (lines_at p calls groups) (lines_at p calls groups) (lines_after p calls groups) (lines_after p calls groups) 0 calls (λ m low high. ap (λ (t : List Line). lines_before p calls groups m ++ t) (none_before calls_before_group m) ∙ append-nil _) (λ m x low high. refl) (λ m low high. refl) in
      ap₂ (λ (x y : List Line). x ++ y) same (none_before calls_before_group (length calls)) ∙ append-nil _

  -- A call that leaves the open group open, or begins an update.
  pub call_line : (o q : Option OpenGroup) (calls_before_group now : ℕ) (calls : List Call) (groups : List Group) (c : Call) (f : Statement) → AreInside (length calls) groups → line_of_call p.slot_names p.bitmap_names c ≡ f → ((m : ℕ) → m ≤ length calls → open_group_before q now m ≡ open_group_before o calls_before_group m) → open_group_before q now (length calls + 1) ≡ [] → lines_so_far q now (calls ++ c ∷ []) groups ≡ lines_so_far o calls_before_group calls groups ++ StatementLine f ∷ []
  call_line o q calls_before_group now calls groups c f inside line same end =
      more_line o q calls_before_group now calls groups groups c f line
      (λ m low. ap₂ (λ (x y : List Line). x ++ y) (before_kept calls (c ∷ []) groups m inside) (same m (omega arith)))
      (ap₂ (λ (x y : List Line). x ++ y) (before_none (calls ++ c ∷ []) groups (length calls) (length calls) inside (omega arith)) (same (length calls) (omega arith)))
      (λ m x low. at_kept calls (c ∷ []) groups m x inside)
      (at_own (calls ++ c ∷ []) groups (length calls) (length calls) c inside (omega arith))
      (λ m low. behind_kept calls (c ∷ []) groups m inside)
      (behind_none (calls ++ c ∷ []) groups (length calls) (length calls) inside (omega arith))
      end

  -- A call that ends an update.
  pub update_line : (l : List ℕ) (s : ℕ) (calls : List Call) (groups : List Group) (g : Group) (c : Call) (f : Statement) → AreInside (length calls) groups → g.hold ≡ Slot s → is_update (calls ++ c ∷ []) g ≡ true → line_of_call p.slot_names p.bitmap_names c ≡ f → lines_so_far None g.first (calls ++ c ∷ []) (groups ++ g ∷ []) ≡ lines_so_far (Some (Updating l)) g.first calls groups ++ StatementLine f ∷ []
  update_line l s calls groups g c f inside hold update line =
      let more : List Call = calls ++ c ∷ [] in
      let none : word_for p.pairs more g ≡ None = ap (λ (h : Hold). word_held p.pairs (group_calls more g) h) hold in
      let opening : lines_opening p more g ≡ [] = ap (λ (w : Option (Pair × GzzWord)). or_opening p.slot_names w (opening_lines p.slot_names g.hold (is_update more g))) none ∙ ap₂ (λ (h : Hold) (t : Bool). opening_lines p.slot_names h t) hold update in
      let closing : lines_closing p more g ≡ [] = ap (λ (w : Option (Pair × GzzWord)). or_closing w (closing_lines p.slot_names g.hold (is_update more g))) none ∙ ap₂ (λ (h : Hold) (t : Bool). closing_lines p.slot_names h t) hold update in
      let before : (m : ℕ) → lines_before p more (groups ++ g ∷ []) m ≡ lines_before p calls groups m = λ m. before_pushed more groups g m ∙ ap₂ (λ (x y : List Line). x ++ y) (before_kept calls (c ∷ []) groups m inside) (ap (λ (t : List Line). cond (g.first == m) t []) opening ∙ cond_none (g.first == m) []) ∙ append-nil _ in
      let behind : (m : ℕ) → lines_after p more (groups ++ g ∷ []) m ≡ lines_after p calls groups m = λ m. behind_pushed more groups g m ∙ ap₂ (λ (x y : List Line). x ++ y) (behind_kept calls (c ∷ []) groups m inside) (ap (λ (t : List Line). cond (g.last == m) t []) closing ∙ cond_none (g.last == m) []) ∙ append-nil _ in
      more_line (Some (Updating l)) None g.first g.first calls groups (groups ++ g ∷ []) c f line
      (λ m low. ap₂ (λ (x y : List Line). x ++ y) (before m) (none_before g.first m ∙ sym (cond_none (g.first == m) [])))
      (ap₂ (λ (x y : List Line). x ++ y) (before (length calls) ∙ before_none calls groups (length calls) (length calls) inside (omega arith)) (none_before g.first (length calls) ∙ sym (cond_none (g.first == length calls) [])))
      (λ m x low. at_pushed more groups g m x none ∙ at_kept calls (c ∷ []) groups m x inside)
      (at_pushed more groups g (length calls) c none ∙ at_own more groups (length calls) (length calls) c inside (omega arith))
      (λ m low. behind m)
      (behind (length calls) ∙ behind_none calls groups (length calls) (length calls) inside (omega arith))
      (none_before g.first (length calls + 1))

  -- Further calls that are a group of their own and stand for a word have its line.
  pub word_line : (calls_before_group now : ℕ) (calls : List Call) (groups : List Group) (x : Call) (xs : List Call) (g : Group) (w : Pair × GzzWord) → AreInside (length calls) groups → g.first ≡ length calls → suc g.last ≡ length calls + length (x ∷ xs) → word_for p.pairs (calls ++ x ∷ xs) g ≡ Some w → lines_so_far None now (calls ++ x ∷ xs) (groups ++ g ∷ []) ≡ lines_so_far None calls_before_group calls groups ++ line_of_word p.slot_names w ∷ []
  word_line calls_before_group now calls groups x xs g w inside first last word =
      let all : List Call = calls ++ x ∷ xs in
      let gs : List Group = groups ++ g ∷ [] in
      let n : ℕ = length calls in
      let a : ℕ → List Line = λ m. lines_before p all gs m ++ open_group_before None now m in
      let b : ℕ → List Line = λ m. lines_before p calls groups m ++ open_group_before None calls_before_group m in
      let old : List Line = woven b (lines_at p calls groups) (lines_after p calls groups) 0 calls in
      let opens : lines_opening p all g ≡ line_of_word p.slot_names w ∷ [] = ap (λ (v : Option (Pair × GzzWord)). or_opening p.slot_names v (opening_lines p.slot_names g.hold (is_update all g))) word in
      let closes : lines_closing p all g ≡ [] = ap (λ (v : Option (Pair × GzzWord)). or_closing v (closing_lines p.slot_names g.hold (is_update all g))) word in
      let behind : (m : ℕ) → lines_after p all gs m ≡ lines_after p all groups m = λ m. behind_pushed all groups g m ∙ ap (λ (t : List Line). lines_after p all groups m ++ t) (ap (λ (t : List Line). cond (g.last == m) t []) closes ∙ cond_none (g.last == m) []) ∙ append-nil _ in
      let some : (m : ℕ) → is_of_word p all gs m ≡ (is_of_word p all groups m || (((nat_le g.first m && nat_le m g.last) && true) || false)) = λ m. of_word_pushed all groups g m ∙ ap (λ (v : Option (Pair × GzzWord)). is_of_word p all groups m || (((nat_le g.first m && nat_le m g.last) && is_some v) || false)) word in
      let before_old : (m : ℕ) → m < n → a m ≡ b m = λ m low.
      ap₂ (λ (u v : List Line). u ++ v) (before_pushed all groups g m ∙ ap₂ (λ (u v : List Line). u ++ v) (before_kept calls (x ∷ xs) groups m inside) (if_apart g.first m (lines_opening p all g) (λ e. omega arith)) ∙ append-nil _) (none_before now m ∙ sym (none_before calls_before_group m)) in
      let of_old : (m : ℕ) → m < n → is_of_word p all gs m ≡ is_of_word p calls groups m = λ m low.
      some m ∙ (ap (λ t. is_of_word p all groups m || (((t && nat_le m g.last) && true) || false)) (too_early g.first m (omega arith)) ∙ (no_more (is_of_word p all groups m) ∙ of_word_kept calls (x ∷ xs) groups m inside)) in
      let at_old : (m : ℕ) (y : Call) → m < n → lines_at p all gs m y ≡ lines_at p calls groups m y = λ m y low. ap (λ t. cond t [] (StatementLine (line_of_call p.slot_names p.bitmap_names y) ∷ [])) (of_old m low) in
      let at_new : (m : ℕ) (y : Call) → n ≤ m → m < n + length (x ∷ xs) → lines_at p all gs m y ≡ [] = λ m y low high.
      ap (λ t. cond t [] (StatementLine (line_of_call p.slot_names p.bitmap_names y) ∷ [])) (some m ∙ (ap₂ (λ s t. is_of_word p all groups m || (((s && t) && true) || false)) (le-leb g.first m (omega arith)) (le-leb m g.last (omega arith)) ∙ or_right (is_of_word p all groups m) true refl)) in
      let same : woven a (lines_at p all gs) (lines_after p all gs) 0 calls ≡ old = woven_same a b (lines_at p all gs) (lines_at p calls groups) (lines_after p all gs) (lines_after p calls groups) 0 calls (λ m low high. before_old m (omega arith)) (λ m y low high. at_old m y (omega arith)) (λ m low high. behind m ∙ behind_kept calls (x ∷ xs) groups m inside) in
      let behind_new : (m : ℕ) → n ≤ m → lines_after p all gs m ≡ [] = λ m low. behind m ∙ behind_none all groups n m inside low in
      let before_first : a n ≡ line_of_word p.slot_names w ∷ [] =
      ap₂ (λ (u v : List Line). u ++ v) (before_pushed all groups g n ∙ ap₂ (λ (u v : List Line). u ++ v) (before_none all groups n n inside (omega arith)) (if_same g.first n (lines_opening p all g) first ∙ opens)) (none_before now n) in
      let before_rest : (m : ℕ) → n + 1 ≤ m → a m ≡ [] = λ m low.
      ap₂ (λ (u v : List Line). u ++ v) (before_pushed all groups g m ∙ ap₂ (λ (u v : List Line). u ++ v) (before_none all groups n m inside (omega arith)) (if_apart g.first m (lines_opening p all g) (λ e. omega arith))) (none_before now m) in
      let rest : woven a (lines_at p all gs) (lines_after p all gs) (n + 1) xs ≡ [] = woven_none a (lines_at p all gs) (lines_after p all gs) (n + 1) xs (λ m low high. before_rest m low) (λ m y low high. at_new m y (omega arith) (omega arith)) (λ m low high. behind_new m (omega arith)) in
      let at_first : lines_at p all gs n x ≡ [] = at_new n x (omega arith) (omega arith) in
      let end_first : lines_after p all gs n ≡ [] = behind_new n (omega arith) in
      let new : woven a (lines_at p all gs) (lines_after p all gs) n (x ∷ xs) ≡ line_of_word p.slot_names w ∷ [] = λ i. before_first i ++ at_first i ++ end_first i ++ rest i in
      ap₂ (λ (u v : List Line). u ++ v) (woven_parts a (lines_at p all gs) (lines_after p all gs) 0 calls (x ∷ xs) n (omega arith) ∙ ap₂ (λ (u v : List Line). u ++ v) same new) (none_before now (length all)) ∙ append-nil _
      ∙ ap (λ (t : List Line). t ++ line_of_word p.slot_names w ∷ []) (sym (ap (λ (t : List Line). old ++ t) (none_before calls_before_group n) ∙ append-nil old))
    where
      too_early : (first m : ℕ) → m < first → nat_le first m ≡ false
      too_early first m low = go (nat_le first m) refl
        where
          go : (t : Bool) → nat_le first m ≡ t → t ≡ false
          go true e = let k : first ≤ m = leb-true first m e in absurd (omega arith)
          go false e = refl

      no_more : (a : Bool) → (a || (((false && nat_le 0 0) && true) || false)) ≡ a
      no_more true = refl
      no_more false = refl

-- The plan's lines from a call on are such lines.
pub lines_from_woven : (p : Plan) (calls : List Call) (groups : List Group) (n : ℕ) (cs : List Call) → lines_from p calls groups n cs ≡ woven (lines_before p calls groups) (lines_at p calls groups) (lines_after p calls groups) n cs
lines_from_woven p calls groups n [] = refl
lines_from_woven p calls groups n (c ∷ cs) =
    ap (λ (t : List Line). (lines_before p calls groups n ++ lines_at p calls groups n c ++ lines_after p calls groups n) ++ t) (lines_from_woven p calls groups (n + 1) cs)
