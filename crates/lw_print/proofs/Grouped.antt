-- Groups that ended before a call have no line at it, and of those that are left the first alone can have one.
use Rattle.std.proofs.Common.{◌≡◌, ℕ, ◌+◌, ◌<◌, ◌≤◌, ◌==◌, ◌≢◌, Bool, true, false, ◌&&◌, ◌||◌, nat_le, if◌then◌else◌, List, [], ◌∷◌, ◌++◌, Option, Some, None, is_some, append-nil, append_assoc, refl, sym, ap, ◌∙◌, subst, arith}
use Rattle.std.specs.List.{flat_map}
use Rattle.std.proofs.lemmas.Bool.{true≢false, eqb-true, eqb-false, ne_eqb, leb-true, le-leb, and_from, or_from}
use Rattle.lw_calls.specs.declared.pair.Pair.{Pair}
use Rattle.lw_calls.specs.declared.call.Call.{Call}
use Rattle.lw_calls.specs.declared.group.Group.{Group}
use Rattle.lw_calls.specs.Plan.{Plan, groups_fit}
use Rattle.lw_calls.proofs.OrderGroups.{follows_on, head_fits, rest_fits, has_order}
use Rattle.lw_gzz.specs.declared.word.GzzWord.{GzzWord}
use Rattle.lw_grammar.specs.Statements.{Line, StatementLine}
use Rattle.lw_canonical.specs.Canonical.{line_of_call, is_update, word_for, opening_lines, closing_lines, or_opening, or_closing, lines_opening, lines_closing, lines_before, lines_after, is_of_word, lines_at, lines_from}
use Rattle.lw_print.specs.Grouping.{has_call, word_at, opening_at, closing_at, lines_around, left_after}

-- the first group that is left doesn't end before call number n
abbrev pub Reaches : ℕ → List Group → Type 0
Reaches n [] = Unit {0}
Reaches n (g ∷ gs) = n ≤ g.last

-- an end of a group: its first call, or its last
abbrev IsEnd : (Group → ℕ) → Type 0
IsEnd edge = (g : Group) → g.first ≤ g.last → (g.first ≤ edge g) × (edge g ≤ g.last)

-- what is said of a group at its end
abbrev at_end : (Group → ℕ) → (Group → List Line) → ℕ → Group → List Line
at_end edge say n g = if edge g == n then say g else []

-- what is said of the first group that is left, at its end
abbrev at_end_of : (Group → ℕ) → (Group → List Line) → ℕ → List Group → List Line
at_end_of edge say n [] = []
at_end_of edge say n (g ∷ gs) = at_end edge say n g

-- nothing is said of a group whose end is elsewhere
not_said : (edge : Group → ℕ) (say : Group → List Line) (n : ℕ) (g : Group) (t : Bool) → (edge g == n) ≡ t → t ≡ false → at_end edge say n g ≡ []
not_said edge say n g true is h = absurd (true≢false h)
not_said edge say n g false is h = rw is refl

-- a number is not another
elsewhere : (edge : Group → ℕ) (say : Group → List Line) (n : ℕ) (g : Group) → edge g ≢ n → at_end edge say n g ≡ []
elsewhere edge say n g h = not_said edge say n g (edge g == n) refl (ne_eqb (edge g) n h)

-- nothing is said of the groups after one that doesn't end before n
none_later : (edge : Group → ℕ) (say : Group → List Line) (calls : List Call) → IsEnd edge → (g : Group) (gs : List Group) (n : ℕ) → groups_fit calls (g ∷ gs) ≡ true → n ≤ g.last → flat_map (at_end edge say n) gs ≡ []
none_later edge say calls end g [] n h reach = refl
none_later edge say calls end g (j ∷ gs) n h reach =
    let fits : groups_fit calls (j ∷ gs) ≡ true = rest_fits calls g (j ∷ gs) h in
    let behind : g.last < j.first = follows_on calls g j gs h in
    let order : j.first ≤ j.last = has_order calls j (head_fits calls j gs fits) in
    let far : j.first ≤ edge j = (end j order).0 in
    ap (λ xs. xs ++ flat_map (at_end edge say n) gs) (elsewhere edge say n j (λ e. absurd (omega (arith, e)))) ∙ none_later edge say calls end j gs n fits (omega arith)

-- of groups of which the first doesn't end before n it alone can be said
first_alone : (edge : Group → ℕ) (say : Group → List Line) (calls : List Call) → IsEnd edge → (gs : List Group) (n : ℕ) → groups_fit calls gs ≡ true → Reaches n gs → flat_map (at_end edge say n) gs ≡ at_end_of edge say n gs
first_alone edge say calls end [] n h reach = refl
first_alone edge say calls end (g ∷ gs) n h reach =
    ap (λ xs. at_end edge say n g ++ xs) (none_later edge say calls end g gs n h reach) ∙ append-nil (at_end edge say n g)

-- a group that ended before n may be left out
passed : (edge : Group → ℕ) (say : Group → List Line) → IsEnd edge → (g : Group) (gs : List Group) (n : ℕ) → g.first ≤ g.last → g.last < n → flat_map (at_end edge say n) (g ∷ gs) ≡ flat_map (at_end edge say n) gs
passed edge say end g gs n order ended =
    let near : edge g ≤ g.last = (end g order).1 in
    ap (λ xs. xs ++ flat_map (at_end edge say n) gs) (elsewhere edge say n g (λ e. absurd (omega (arith, e))))

-- the first call is an end of a group, and so is the last
is_first : IsEnd (λ g. g.first)
is_first g order = (omega arith, order)

is_last : IsEnd (λ g. g.last)
is_last g order = (order, omega arith)

-- a group that doesn't begin before a later number, or ended before this one, hasn't it
not_begun : (g : Group) (n : ℕ) → n < g.first → has_call g n ≡ false
not_begun g n low = go (nat_le g.first n) refl
  where
    go : (t : Bool) → nat_le g.first n ≡ t → (t && nat_le n g.last) ≡ false
    go true e = let k : g.first ≤ n = leb-true g.first n e in absurd (omega arith)
    go false e = refl

not_lasting : (g : Group) (n : ℕ) → g.last < n → has_call g n ≡ false
not_lasting g n low = go (nat_le g.first n) (nat_le n g.last) refl
  where
    go : (s t : Bool) → nat_le n g.last ≡ t → (s && t) ≡ false
    go s true e = let k : n ≤ g.last = leb-true n g.last e in absurd (omega arith)
    go true false e = refl
    go false false e = refl

has_it : (g : Group) (n : ℕ) → g.first ≤ n → n ≤ g.last → has_call g n ≡ true
has_it g n low high = and_from _ _ (le-leb _ _ low) (le-leb _ _ high)

-- The lines of a plan's calls.
module _ (p : Plan) (calls : List Call) where
  -- the groups after one that doesn't end before n haven't it
  none_of_word : (g : Group) (gs : List Group) (n : ℕ) → groups_fit calls (g ∷ gs) ≡ true → n ≤ g.last → is_of_word p calls gs n ≡ false
  none_of_word g [] n h reach = refl
  none_of_word g (j ∷ gs) n h reach =
      let fits : groups_fit calls (j ∷ gs) ≡ true = rest_fits calls g (j ∷ gs) h in
      let behind : g.last < j.first = follows_on calls g j gs h in
      let order : j.first ≤ j.last = has_order calls j (head_fits calls j gs fits) in
      or_from _ _ (ap (λ t. t && is_some (word_for p.pairs calls j)) (not_begun j n (omega arith))) (none_of_word j gs n fits (omega arith))

  -- its line stands where the group that has it stands for no word
  own_word : (g : Group) (n : ℕ) (rest : Bool) (line : Line) → rest ≡ false → (if (has_call g n && is_some (word_for p.pairs calls g)) || rest then [] else line ∷ []) ≡ or_closing (word_at p.pairs calls (g ∷ []) n) (line ∷ [])
  own_word g n true line e = absurd (true≢false e)
  own_word g n false line e = go (has_call g n) (word_for p.pairs calls g)
    where
      go : (t : Bool) (w : Option (Pair × GzzWord)) → (if (t && is_some w) || false then [] else line ∷ []) ≡ or_closing (if t then w else None) (line ∷ [])
      go true (Some w) = refl
      go true None = refl
      go false (Some w) = refl
      go false None = refl

  -- at a group's beginning, and at its end, the group has the call
  at_edge : (edge n : ℕ) (t : Bool) (w : Option (Pair × GzzWord)) (say : Option (Pair × GzzWord) → List Line) → (edge ≡ n → t ≡ true) → (if edge == n then say w else []) ≡ (if edge == n then say (if t then w else None) else [])
  at_edge edge n t w say h = go (edge == n) refl
    where
      go : (s : Bool) → (edge == n) ≡ s → (if s then say w else []) ≡ (if s then say (if t then w else None) else [])
      go true e = ap (λ u. say (if u then w else None)) (sym (h (eqb-true _ _ e)))
      go false e = refl

  -- lines in three parts, and those after them
  around_same : (before before' own own' behind behind' rest : List Line) → before ≡ before' → own ≡ own' → behind ≡ behind' → before ++ own ++ behind ++ rest ≡ (before' ++ (own' ++ behind')) ++ rest
  around_same before before' own own' behind behind' rest e f g = rw (e, f, g) (simp append_assoc)

  -- the lines of the calls from number n on, without a group that ended before it
  lines_passed : (g : Group) (gs : List Group) (n : ℕ) (cs : List Call) → g.first ≤ g.last → g.last < n → lines_from p calls (g ∷ gs) n cs ≡ lines_from p calls gs n cs
  lines_passed g gs n [] order ended = refl
  lines_passed g gs n (c ∷ cs) order ended =
      let before = passed (λ g. g.first) (λ g. lines_opening p calls g) is_first g gs n order ended in
      let behind = passed (λ g. g.last) (λ g. lines_closing p calls g) is_last g gs n order ended in
      let own : is_of_word p calls (g ∷ gs) n ≡ is_of_word p calls gs n = ap (λ t. (t && is_some (word_for p.pairs calls g)) || is_of_word p calls gs n) (not_lasting g n ended) in
      let here : lines_at p calls (g ∷ gs) n c ≡ lines_at p calls gs n c = ap (λ t. if t then [] else StatementLine (line_of_call p.slot_names p.bitmap_names c) ∷ []) own in
      let rest = lines_passed g gs (n + 1) cs order (omega arith) in
      λ i. before i ++ here i ++ behind i ++ rest i

  -- the lines of the calls from number n on are those of this call and the others
  pub lines_next : (gs : List Group) (n : ℕ) (c : Call) (cs : List Call) → groups_fit calls gs ≡ true → Reaches n gs → lines_from p calls gs n (c ∷ cs) ≡ lines_around p calls gs n c ++ lines_from p calls gs (n + 1) cs
  lines_next [] n c cs h reach = refl
  lines_next (g ∷ gs) n c cs h reach =
      let order : g.first ≤ g.last = has_order calls g (head_fits calls g gs h) in
      let word : Option (Pair × GzzWord) = word_for p.pairs calls g in
      let before : lines_before p calls (g ∷ gs) n ≡ opening_at p.slot_names calls (g ∷ gs) n (word_at p.pairs calls (g ∷ gs) n) =
      first_alone (λ g. g.first) (λ g. lines_opening p calls g) calls is_first (g ∷ gs) n h reach ∙ at_edge g.first n (has_call g n) word (λ w. or_opening p.slot_names w (opening_lines p.slot_names g.hold (is_update calls g))) (λ e. has_it g n (omega (arith, e)) reach) in
      let behind : lines_after p calls (g ∷ gs) n ≡ closing_at p.slot_names calls (g ∷ gs) n (word_at p.pairs calls (g ∷ gs) n) =
      first_alone (λ g. g.last) (λ g. lines_closing p calls g) calls is_last (g ∷ gs) n h reach ∙ at_edge g.last n (has_call g n) word (λ w. or_closing w (closing_lines p.slot_names g.hold (is_update calls g))) (λ e. has_it g n (omega (arith, e, order)) reach) in
      let own : lines_at p calls (g ∷ gs) n c ≡ or_closing (word_at p.pairs calls (g ∷ gs) n) (StatementLine (line_of_call p.slot_names p.bitmap_names c) ∷ []) = own_word g n (is_of_word p calls gs n) (StatementLine (line_of_call p.slot_names p.bitmap_names c)) (none_of_word g gs n h reach) in
      around_same _ _ _ _ _ _ (lines_from p calls (g ∷ gs) (n + 1) cs) before own behind

-- the groups that are left, by whether the first ends at call number n
abbrev left_if : Bool → Group → List Group → List Group
left_if t g gs = if t then gs else g ∷ gs

left_fit_step : (t : Bool) (calls : List Call) (g : Group) (gs : List Group) → groups_fit calls (g ∷ gs) ≡ true → groups_fit calls (left_if t g gs) ≡ true
left_fit_step true calls g gs h = rest_fits calls g gs h
left_fit_step false calls g gs h = h

next_reaches : (calls : List Call) (g : Group) (gs : List Group) → groups_fit calls (g ∷ gs) ≡ true → Reaches (g.last + 1) gs
next_reaches calls g [] h = tt
next_reaches calls g (j ∷ gs) h =
    let behind : g.last < j.first = follows_on calls g j gs h in
    let order : j.first ≤ j.last = has_order calls j (head_fits calls j gs (rest_fits calls g (j ∷ gs) h)) in
    omega arith

left_reach_step : (t : Bool) (calls : List Call) (g : Group) (gs : List Group) (n : ℕ) → (g.last == n) ≡ t → groups_fit calls (g ∷ gs) ≡ true → n ≤ g.last → Reaches (n + 1) (left_if t g gs)
left_reach_step true calls g gs n is h reach = subst (λ k. Reaches (k + 1) gs) (eqb-true _ _ is) (next_reaches calls g gs h)
left_reach_step false calls g gs n is h reach =
    let other : g.last ≢ n = eqb-false _ _ is in
    omega (arith, other)

left_lines_step : (t : Bool) (p : Plan) (calls : List Call) (g : Group) (gs : List Group) (n : ℕ) (cs : List Call) → (g.last == n) ≡ t → groups_fit calls (g ∷ gs) ≡ true → lines_from p calls (g ∷ gs) (n + 1) cs ≡ lines_from p calls (left_if t g gs) (n + 1) cs
left_lines_step true p calls g gs n cs is h =
    let here : g.last ≡ n = eqb-true _ _ is in
    lines_passed p calls g gs (n + 1) cs (has_order calls g (head_fits calls g gs h)) (omega (arith, here))
left_lines_step false p calls g gs n cs is h = refl

-- the groups that are left after call number n fit
pub left_fit : (calls : List Call) (gs : List Group) (n : ℕ) → groups_fit calls gs ≡ true → groups_fit calls (left_after gs n) ≡ true
left_fit calls [] n h = refl
left_fit calls (g ∷ gs) n h = left_fit_step (g.last == n) calls g gs h

-- they don't end before the next call
pub left_reach : (calls : List Call) (gs : List Group) (n : ℕ) → groups_fit calls gs ≡ true → Reaches n gs → Reaches (n + 1) (left_after gs n)
left_reach calls [] n h reach = tt
left_reach calls (g ∷ gs) n h reach = left_reach_step (g.last == n) calls g gs n refl h reach

-- the lines of the calls after number n are those with the groups that are left
pub left_lines : (p : Plan) (calls : List Call) (gs : List Group) (n : ℕ) (cs : List Call) → groups_fit calls gs ≡ true → lines_from p calls gs (n + 1) cs ≡ lines_from p calls (left_after gs n) (n + 1) cs
left_lines p calls [] n cs h = refl
left_lines p calls (g ∷ gs) n cs h = left_lines_step (g.last == n) p calls g gs n cs refl h
