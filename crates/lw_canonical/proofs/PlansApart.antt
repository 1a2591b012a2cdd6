-- The plan of each input that bytes spell keeps its windows of two layers apart.
use Rattle.std.proofs.Common.{◌≡◌, ℕ, zero, suc, ◌<◌, ◌≤◌, Bool, true, false, ◌&&◌, ◌||◌, nat_le, List, [], ◌∷◌, length, map, filter, cond, flat_map, slice_index_or, bytes_eq, All, Contains, Option, Some, None, is_some, refl, sym, ap, subst, ◌∙◌, arith, inl, inr, ◌⊎◌}
use Rattle.std.specs.List.{list_any, slice_get, range_with_len}
use Rattle.lw_calls.specs.declared.pair.Pair.{Pair}
use Rattle.lw_calls.specs.declared.call.Call.{Call}
use Rattle.lw_calls.specs.declared.group.Hold.{Hold}
use Rattle.lw_calls.specs.declared.group.Hold.TheVariants.{Slot, All as AllLayers}
use Rattle.lw_calls.specs.declared.group.Group.{Group}
use Rattle.lw_calls.specs.Plan.{Plan, task_calls, task_groups, group_calls}
use Rattle.lw_gzz.specs.declared.word.GzzWord.{GzzWord}
use Rattle.lw_gzz.specs.declared.word.GzzWord.TheVariants.{Open as OpenWord, SetBox as BoxWord, Front as FrontWord, Behind as BehindWord, InFrontOf as PlaceWord, Close as CloseWord}
use Rattle.lw_gzz.specs.Together.{may_part, HasPairBox, puts_before}
use Rattle.lw_gzz.specs.Apart.{StandsForWord, IsInPairGroup, opens_pair, IsOpenedOnce, IsApart}
use Rattle.lw_grammar.specs.Statements.{Statement, EndLine, Line, StatementLine}
use Rattle.lw_grammar.specs.Told.{NamedPair, told, plan_of, pair_among}
use Rattle.lw_grammar.specs.Script.{Setting, may_end}
use Rattle.lw_grammar.specs.Reading.{at_the_top}
use Rattle.lw_grammar.specs.GoodLines.{AreGoodLines}
use Rattle.lw_grammar.specs.Lines.{lines}
use Rattle.lw_grammar.proofs.ScriptNames.{same_name, equal_names}
use Rattle.lw_grammar.proofs.ScriptOutcome.{lines_keep, of_lines}
use Rattle.lw_grammar.proofs.ScriptTasks.{calls_listed}
use Rattle.lw_canonical.specs.Canonical.{line_of_call, word_held, word_for, line_of_word, opening_lines, is_update, or_opening, lines_opening, lines_before, is_of_word, lines_from, lines_of_task}
use Rattle.lw_canonical.specs.Pairs.{SpelledPlansKeepPairsApart}
use Rattle.lw_canonical.proofs.Rearranged.{is_task_line, stated, AreLinesWritten}
use Rattle.lw_canonical.proofs.LinesWritten.{AreGoodAndWritten, written_more}
use Rattle.lw_canonical.proofs.PlanLines.{plan_tasks}
use Rattle.lw_canonical.proofs.FreeCalls.{name_at, AreFoundPairs}
use Rattle.lw_canonical.proofs.GzzWords.{among_has}
use Rattle.lw_canonical.proofs.PairsFound.{IsOneOf, ArePairsNamed, pairs_named, found_pairs, found_pair}
use Rattle.lw_canonical.proofs.NamesApart.{AreNamesApart, IsApartFrom, AreAllApart, all_apart, own_slots, all_disjoint}
use Rattle.lw_canonical.proofs.LinesApart.{pairs_versions, IsLineApart, AreEach, lines_apart, each_left, each_reversed, each_filtered, each_numbered}
use Rattle.lw_canonical.proofs.CallsApart.{line_free, each_free, among_found, held_found, is_in, first_call, word_boxed, word_not_between, each_at, each_opening}
use Rattle.lw_canonical.proofs.OpenedOnce.{opens, one_more, openings, opened_once, append_opens, reversed_opens, filtered_opens, one_numbered, same_numbered, numbered_few, one_from, from_least, same_from, one_here, here_least, same_here}
use Rattle.std.proofs.lemmas.Bool.{true≢false, false≢true, and_parts, leb-true}

-- a call that is there
there : (cs : List Call) (n : ℕ) (c : Call) → slice_get cs n ≡ Some c → n < length cs
there [] n c h = absurd (cc)
there (d ∷ ds) zero c h = omega arith
there (d ∷ ds) (suc n) c h = let k = there ds n c h in omega (arith, k)

-- a list of lists has one that isn't empty
listed : (css : List (List Call)) (t : ℕ) → 0 < length (slice_index_or css t []) → t < length css
listed [] t h = absurd (omega (arith, h))
listed (cs ∷ css) zero h = omega arith
listed (cs ∷ css) (suc t) h = let k = listed css t h in omega (arith, k)

some_of : {A : Type 0} (o : Option A) → is_some o ≡ true → (a : A) × (o ≡ Some a)
some_of None h = absurd (false≢true h)
some_of (Some a) h = (a, refl)

-- a group that passes a test
group_found : (test : Group → Bool) (gs : List Group) → list_any test gs ≡ true → (g : Group) × Contains gs g × (test g ≡ true)
group_found test [] h = absurd (false≢true h)
group_found test (g ∷ gs) h = go (test g) refl h (group_found test gs)
  where
    go : (b : Bool) → test g ≡ b → (b || list_any test gs) ≡ true → (list_any test gs ≡ true → (x : Group) × Contains gs x × (test x ≡ true)) → (x : Group) × Contains (g ∷ gs) x × (test x ≡ true)
    go true e k rest = (g, (0, omega arith, refl), e)
    go false e k rest =
        let r = rest k in
        (r.0, (suc r.1.0, omega (arith, r.1.1), r.1.2), r.2)

-- windows of one outer layer are one
apart_from : (q r : NamedPair) (qs : List NamedPair) → IsApartFrom q qs → IsOneOf r qs → AreNamesApart q r
apart_from q r [] h one = absurd one
apart_from q r (t ∷ ts) h (inl e) = subst (AreNamesApart q) (sym e) h.0
apart_from q r (t ∷ ts) h (inr one) = apart_from q r ts h.1 one

not_both : (q r : NamedPair) → AreNamesApart q r → q.outer ≡ r.outer → ⊥
not_both q r h e = true≢false (sym (same_name r.outer) ∙ (ap (λ (n : List ℕ). bytes_eq n r.outer) (sym e) ∙ h.outers))

same_window : (qs : List NamedPair) (q r : NamedPair) → AreAllApart qs → IsOneOf q qs → IsOneOf r qs → q.outer ≡ r.outer → q ≡ r
same_window [] q r h a b e = absurd a
same_window (t ∷ ts) q r h (inl a) (inl b) e = a ∙ sym b
same_window (t ∷ ts) q r h (inl a) (inr b) e = absurd (not_both t r (apart_from t r ts h.1 b) (ap (λ (x : NamedPair). x.outer) (sym a) ∙ e))
same_window (t ∷ ts) q r h (inr a) (inl b) e = absurd (not_both t q (apart_from t q ts h.1 a) (ap (λ (x : NamedPair). x.outer) (sym b) ∙ sym e))
same_window (t ∷ ts) q r h (inr a) (inr b) e = same_window ts q r h.2 a b e

-- the pairs of windows
all_mapped : (P : Pair → Type 0) (names : List (List ℕ)) (qs : List NamedPair) → ((q : NamedPair) → IsOneOf q qs → P (pair_among names q)) → All P (map (pair_among names) qs)
all_mapped P names [] h k d low = absurd (omega (arith, low))
all_mapped P names (q ∷ qs) h zero d low = h q (inl refl)
all_mapped P names (q ∷ qs) h (suc k) d low = all_mapped P names qs (λ r one. h r (inr one)) k d (omega (arith, low))

one_mapped : (names : List (List ℕ)) (qs : List NamedPair) (p : Pair) → Contains (map (pair_among names) qs) p → (q : NamedPair) × IsOneOf q qs × (p ≡ pair_among names q)
one_mapped names [] p h = absurd (omega (arith, h.1))
one_mapped names (q ∷ qs) p (zero, low, is) = (q, inl refl, sym is)
one_mapped names (q ∷ qs) p (suc k, low, is) =
    let r = one_mapped names qs p (k, omega (arith, low), is) in
    (r.0, inr r.1, r.2)

-- the word of a group whose line opens a window
opening_is : (names : List (List ℕ)) (n : List ℕ) (p : Pair) (word : GzzWord) → opens n (line_of_word names (p, word)) ≡ true → (opens_pair word ≡ true) × (bytes_eq n (name_at names p.outer) ≡ true)
opening_is names n p (OpenWord kind place x y w h asks title) e = (refl, e)
opening_is names n p (BoxWord x y w h) e = absurd (false≢true e)
opening_is names n p FrontWord e = absurd (false≢true e)
opening_is names n p BehindWord e = absurd (false≢true e)
opening_is names n p (PlaceWord other) e = absurd (false≢true e)
opening_is names n p CloseWord e = absurd (false≢true e)

is_opening : (names : List (List ℕ)) (n : List ℕ) (p : Pair) (word : GzzWord) → opens_pair word ≡ true → bytes_eq n (name_at names p.outer) ≡ true → opens n (line_of_word names (p, word)) ≡ true
is_opening names n p (OpenWord kind place x y w h asks title) e d = d
is_opening names n p (BoxWord x y w h) e d = absurd (false≢true e)
is_opening names n p FrontWord e d = absurd (false≢true e)
is_opening names n p BehindWord e d = absurd (false≢true e)
is_opening names n p (PlaceWord other) e d = absurd (false≢true e)
is_opening names n p CloseWord e d = absurd (false≢true e)

word_opens : (names : List (List ℕ)) (n : List ℕ) (o : Option (Pair × GzzWord)) (h : Hold) (b : Bool) → 0 < openings n (or_opening names o (opening_lines names h b)) → (w : Pair × GzzWord) × (o ≡ Some w) × (opens n (line_of_word names w) ≡ true)
word_opens names n (Some w) h b e = (w, refl, go (opens n (line_of_word names w)) e)
  where
    go : (t : Bool) → 0 < one_more t 0 → t ≡ true
    go true k = refl
    go false k = absurd (omega (arith, k))
word_opens names n None (Slot s) true e = absurd (omega (arith, e))
word_opens names n None (Slot s) false e = absurd (omega (arith, e))
word_opens names n None AllLayers b e = absurd (omega (arith, e))

-- The plan of these lines.
module _ (s : Setting) (ls : List Line) (good : AreGoodLines s (stated ls)) (w : AreLinesWritten s ls) (ended : may_end s.form (told (stated ls)).section ≡ true) where
  abbrev p : Plan
  p = plan_of s.hooks (told (stated ls))

  abbrev pairs : List NamedPair
  pairs = (told (stated ls)).pairs

  named : ArePairsNamed p.slot_names pairs
  named = pairs_named s ls w

  found : AreFoundPairs p.slot_names pairs
  found = found_pairs p.slot_names pairs named

  abbrev P : Line → Type 0
  P = IsLineApart p.sizes.width p.sizes.height pairs

  abbrev all_lines : List Line
  all_lines = flat_map (lines_of_task p) (range_with_len 0 (length p.task_names))

  abbrev own_lines : ℕ → List Line
  own_lines t = lines_from p (task_calls p t) (task_groups p t) 0 (task_calls p t)

  each_line : AreEach P all_lines
  each_line =
      subst (AreEach P) (sym (plan_tasks s ls good w ended)) (each_reversed P (filter is_task_line ls) (each_filtered P is_task_line ls (lines_apart s ls w)))

  each_of_task : (t : ℕ) → t < length p.task_names → AreEach P (own_lines t)
  each_of_task t low = each_left P (own_lines t) (StatementLine EndLine ∷ []) (each_numbered P (lines_of_task p) (length p.task_names) t each_line low).1

  task_low : (t n : ℕ) (c : Call) → slice_get (task_calls p t) n ≡ Some c → t < length p.task_names
  task_low t n c e =
      let k = there (task_calls p t) n c e in
      let low = listed p.calls t (omega (arith, k)) in
      let many = calls_listed (stated ls) in
      omega (arith, low, many)

  -- a group that stands for a word
  found_word : (t : ℕ) (g : Group) (a : Pair × GzzWord) → Contains (task_groups p t) g → word_for p.pairs (task_calls p t) g ≡ Some a → Contains p.pairs a.0 × StandsForWord p t g a.0 a.1
  found_word t g a has e =
      let held = held_found p.pairs (group_calls (task_calls p t) g) g.hold a e in
      let among = among_found p.pairs (group_calls (task_calls p t) g) a held.1 in
      (among.0, record { listed = has; holds = held.0; spells = among.1 })

  word_found : (t : ℕ) (g : Group) (q : Pair) (word : GzzWord) → Contains p.pairs q → StandsForWord p t g q word → word_for p.pairs (task_calls p t) g ≡ Some (q, word)
  word_found t g q word has st =
      ap (word_held p.pairs (group_calls (task_calls p t) g)) st.holds ∙ among_has p.pairs q word (group_calls (task_calls p t) g) st.spells (is_in p.pairs q has)

  -- Each call that may part a window stands in such a group.
  each_call : (t n : ℕ) (c : Call) → slice_get (task_calls p t) n ≡ Some c → All (λ q. may_part q c ≡ false) p.pairs ⊎ IsInPairGroup p t n
  each_call t n c e =
      let lines_here = each_at P p (task_calls p t) (task_groups p t) 0 n n (task_calls p t) c (each_of_task t (task_low t n c e)) e (omega arith) in
      go (is_of_word p (task_calls p t) (task_groups p t) n) refl lines_here.1
    where
      go : (b : Bool) → is_of_word p (task_calls p t) (task_groups p t) n ≡ b → AreEach P (cond b [] (StatementLine (line_of_call p.slot_names p.bitmap_names c) ∷ [])) → All (λ q. may_part q c ≡ false) p.pairs ⊎ IsInPairGroup p t n
      go false d h = inl (each_free c p.pairs (line_free p.slot_names p.bitmap_names pairs c found h.0))
      go true d h =
          let g = group_found (λ x. (nat_le x.first n && nat_le n x.last) && is_some (word_for p.pairs (task_calls p t) x)) (task_groups p t) d in
          let both = and_parts (nat_le g.0.first n && nat_le n g.0.last) (is_some (word_for p.pairs (task_calls p t) g.0)) g.2 in
          let ends = and_parts (nat_le g.0.first n) (nat_le n g.0.last) both.0 in
          let a = some_of (word_for p.pairs (task_calls p t) g.0) both.1 in
          let k = found_word t g.0 a.0 g.1 a.1 in
          inr (record { group = g.0; pair_group = record { pair = a.0.0; word = a.0.1; of_plan = k.0; stands = k.1 }; low = leb-true _ _ ends.0; high = leb-true _ _ ends.1 })

  -- What is known of the line of such a group.
  word_line : (t : ℕ) (g : Group) (q : Pair) (word : GzzWord) → Contains p.pairs q → StandsForWord p t g q word → P (line_of_word p.slot_names (q, word))
  word_line t g q word has st =
      let calls : List Call = task_calls p t in
      let c = first_call calls g q word st.spells in
      let lines_here = each_at P p calls (task_groups p t) 0 g.first g.first calls c.0 (each_of_task t (task_low t g.first c.0 c.1)) c.1 (omega arith) in
      let opening = each_opening P p calls (task_groups p t) (task_groups p t) g g.first lines_here.0 st.listed refl in
      (subst (λ o. AreEach P (or_opening p.slot_names o (opening_lines p.slot_names g.hold (is_update calls g)))) (word_found t g q word has st) opening).0

  each_box : (t : ℕ) (g : Group) (q : Pair) (word : GzzWord) → Contains p.pairs q → StandsForWord p t g q word → HasPairBox p.sizes word
  each_box t g q word has st = word_boxed p.sizes p.slot_names q word (word_line t g q word has st).0

  each_place : (t : ℕ) (g : Group) (q : Pair) (word : GzzWord) → Contains p.pairs q → StandsForWord p t g q word → All (λ r. puts_before r.outer word ≡ false) p.pairs
  each_place t g q word has st = word_not_between p.slot_names pairs q word found (word_line t g q word has st).1

  -- One group opens each window.
  module _ (q : NamedPair) (one : IsOneOf q pairs) where
    abbrev n : List ℕ
    n = q.outer

    abbrev pair : Pair
    pair = pair_among p.slot_names q

    counted : openings n all_lines ≡ 1
    counted = ap (openings n) (plan_tasks s ls good w ended) ∙ reversed_opens n (filter is_task_line ls) ∙ filtered_opens n ls ∙ opened_once s ls w q one

    of_task : (t : ℕ) → openings n (lines_of_task p t) ≡ openings n (own_lines t)
    of_task t = let e = append_opens n (own_lines t) (StatementLine EndLine ∷ []) in omega (arith, e)

    has_pair : Contains p.pairs pair
    has_pair = go pairs one
      where
        go : (qs : List NamedPair) → IsOneOf q qs → Contains (map (pair_among p.slot_names) qs) pair
        go [] h = absurd h
        go (r ∷ rs) (inl e) = (0, omega arith, ap (pair_among p.slot_names) (sym e))
        go (r ∷ rs) (inr h) = let k = go rs h in (suc k.0, omega (arith, k.1), k.2)

    own_name : bytes_eq n (name_at p.slot_names pair.outer) ≡ true
    own_name = ap (bytes_eq n) (found_pair p.slot_names pairs q one found).outer ∙ same_name n

    -- where such a group stands
    record IsPlaced (t : ℕ) (g : Group) : Type 0 where
      task : t < length p.task_names
      first : g.first < length (task_calls p t)
      opening : 0 < openings n (lines_opening p (task_calls p t) g)
      before : 0 < openings n (lines_before p (task_calls p t) (task_groups p t) g.first)
      in_task : 0 < openings n (lines_of_task p t)

    placed : (t : ℕ) (g : Group) (word : GzzWord) → StandsForWord p t g pair word → opens_pair word ≡ true → IsPlaced t g
    placed t g word st e =
        let calls : List Call = task_calls p t in
        let groups : List Group = task_groups p t in
        let c = first_call calls g pair word st.spells in
        let low = there calls g.first c.0 c.1 in
        let is : opens n (line_of_word p.slot_names (pair, word)) ≡ true = is_opening p.slot_names n pair word e own_name in
        let shown : openings n (lines_opening p calls g) ≡ one_more true 0 = ap (λ o. openings n (or_opening p.slot_names o (opening_lines p.slot_names g.hold (is_update calls g)))) (word_found t g pair word has_pair st) ∙ ap (λ b. one_more b 0) is in
        let some : 0 < openings n (lines_opening p calls g) = omega (arith, shown) in
        let more : openings n (lines_opening p calls g) ≤ openings n (lines_before p calls groups g.first) = here_least n p calls groups groups g.first g st.listed refl in
        let most = from_least n p calls groups calls g.first low in
        let same = of_task t in
        record { task = task_low t g.first c.0 c.1; first = low; opening = some; before = omega (arith, some, more); in_task = omega (arith, some, more, most, same) }

    -- in one task it is one group
    same_opening : (t : ℕ) (g h : Group) → Contains (task_groups p t) g → Contains (task_groups p t) h → IsPlaced t g → IsPlaced t h → h ≡ g
    same_opening t g h a b x y =
        let calls : List Call = task_calls p t in
        let groups : List Group = task_groups p t in
        let same = of_task t in
        let few = numbered_few n (lines_of_task p) (length p.task_names) t counted x.task in
        let first : h.first ≡ g.first = same_from n p calls groups calls h.first g.first (omega (arith, same, few)) y.first x.first y.before x.before in
        let most = from_least n p calls groups calls g.first x.first in
        let once : openings n (lines_before p calls groups g.first) ≤ 1 = omega (arith, most, same, few) in
        same_here n p calls groups groups g.first h g once b a first refl y.opening x.opening

    only_one : (t u : ℕ) (g h : Group) (word again : GzzWord) → StandsForWord p t g pair word → opens_pair word ≡ true → StandsForWord p u h pair again → opens_pair again ≡ true → (u ≡ t) × (h ≡ g)
    only_one t u g h word again st e ut d =
        let x = placed t g word st e in
        let y = placed u h again ut d in
        let same : u ≡ t = same_numbered n (lines_of_task p) (length p.task_names) u t counted y.task x.task y.in_task x.in_task in
        let moved : StandsForWord p t h pair again = subst (λ k. StandsForWord p k h pair again) same ut in
        (same, same_opening t g h st.listed moved.listed x (placed t h again moved d))

    -- the pair of the plan whose outer layer has this name
    own_pair : (x : Pair) → Contains p.pairs x → bytes_eq n (name_at p.slot_names x.outer) ≡ true → x ≡ pair
    own_pair x has e =
        let r = one_mapped p.slot_names pairs x has in
        let name : name_at p.slot_names x.outer ≡ r.0.outer = ap (λ (y : Pair). name_at p.slot_names y.outer) r.2 ∙ (found_pair p.slot_names pairs r.0 r.1 found).outer in
        let window : q ≡ r.0 = same_window pairs q r.0 (all_apart s ls w) one r.1 (equal_names n (name_at p.slot_names x.outer) e ∙ name) in
        r.2 ∙ ap (pair_among p.slot_names) (sym window)

    -- what opens this window opens this pair, and nothing else does
    own_word : (t : ℕ) (g : Group) (a : Pair × GzzWord) → Contains (task_groups p t) g → word_for p.pairs (task_calls p t) g ≡ Some a → opens n (line_of_word p.slot_names a) ≡ true → StandsForWord p t g pair a.1 × (opens_pair a.1 ≡ true)
    own_word t g a has e d =
        let k = found_word t g a has e in
        let is = opening_is p.slot_names n a.0 a.1 d in
        (subst (λ (x : Pair). StandsForWord p t g x a.1) (own_pair a.0 k.0 is.1) k.1, is.0)

    opened_by : (t : ℕ) (g : Group) (word : GzzWord) → StandsForWord p t g pair word → opens_pair word ≡ true → IsOpenedOnce p pair
    opened_by t g word st e = record { task = t; group = g; word = word; stands = st; opens = e; only = λ u h again ut d. only_one t u g h word again st e ut d }

    one_opening : IsOpenedOnce p pair
    one_opening =
        let t = one_numbered n (lines_of_task p) (length p.task_names) counted in
        let calls : List Call = task_calls p t.0 in
        let groups : List Group = task_groups p t.0 in
        let same = of_task t.0 in
        let i = one_from n p calls groups calls (omega (arith, t.2, same)) in
        let g = one_here n p calls groups groups i.0 i.2 in
        let a = word_opens p.slot_names n (word_for p.pairs calls g.0) g.0.hold (is_update calls g.0) g.3 in
        let own = own_word t.0 g.0 a.0 g.1 a.1 a.2 in
        opened_by t.0 g.0 a.0.1 own.0 own.1

  plan_apart : IsApart p
  plan_apart = record {
    version = go (pairs_versions s ls w);
    slots = own_slots p.slot_names pairs named (all_apart s ls w);
    disjoint = all_disjoint p.slot_names pairs named (all_apart s ls w);
    opened = all_mapped (IsOpenedOnce p) p.slot_names pairs one_opening;
    calls = each_call;
    boxes = each_box;
    places = each_place;
  }
    where
      go : (p.sizes.version ≡ 2) ⊎ (pairs ≡ []) → (p.sizes.version ≡ 2) ⊎ (p.pairs ≡ [])
      go (inl e) = inl e
      go (inr e) = inr (ap (map (pair_among p.slot_names)) e)

-- So does that of each input.
pub spelled_plans_apart : SpelledPlansKeepPairsApart
spelled_plans_apart s bytes input h =
    let l = of_lines s bytes input h in
    let same : input.plan ≡ plan_of s.hooks (told l.reached.statements) = ap (λ i. i.plan) l.is in
    let read = lines_keep (AreGoodAndWritten s) s (written_more s) at_the_top l.reached (lines bytes) (tt, record { lines = []; are = refl; written = tt }) l.lines_are in
    let have = read.0.1 in
    let Q : List Statement → Type 0 = λ a. AreGoodLines s a → may_end s.form (told a).section ≡ true → IsApart (plan_of s.hooks (told a)) in
    let at : Q (stated have.lines) = λ g e. plan_apart s have.lines g have.written e in
    subst IsApart (sym same) (subst Q have.are at l.read.good l.read.ended)
