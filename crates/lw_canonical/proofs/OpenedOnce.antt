-- One line of a script opens a window of two layers, so that one group of its plan does.
use Rattle.std.proofs.Common.{◌≡◌, ℕ, zero, suc, ◌+◌, ◌<◌, ◌≤◌, ◌==◌, Bool, true, false, ◌≢◌, List, [], ◌∷◌, ◌++◌, length, filter, reverse, cond, flat_map, bytes_eq, Contains, Option, Some, None, refl, sym, ap, ap₂, ◌∙◌, arith, inl, inr, ◌⊎◌}
use Rattle.std.specs.List.{list_any, range_with_len}
use Rattle.lw_calls.specs.declared.pair.Pair.{Pair}
use Rattle.lw_calls.specs.declared.call.Call.{Call}
use Rattle.lw_calls.specs.declared.group.Hold.{Hold}
use Rattle.lw_calls.specs.declared.group.Hold.TheVariants.{Slot, All as AllLayers}
use Rattle.lw_calls.specs.declared.group.Group.{Group}
use Rattle.lw_calls.specs.Plan.{Plan}
use Rattle.lw_gzz.specs.declared.word.GzzWord.{GzzWord}
use Rattle.lw_grammar.specs.Statements.{Statement, PairMade, GzzAct, OpenGzz, BoxGzz, FrontGzz, BehindGzz, InFrontGzz, CloseGzz, Line, StatementLine, AreaLine, GzzLine}
use Rattle.lw_grammar.specs.Told.{NamedPair, told}
use Rattle.lw_grammar.specs.Script.{Setting}
use Rattle.lw_grammar.proofs.ScriptNames.{same_name, equal_names}
use Rattle.lw_grammar.proofs.ScriptOutcome.{line_good}
use Rattle.lw_grammar.proofs.GzzLines.{gzz_passed}
use Rattle.lw_canonical.specs.Spelling.{written}
use Rattle.lw_canonical.specs.Canonical.{word_for, closing_lines, is_update, is_of_word, or_closing, lines_opening, lines_closing, lines_before, lines_after, lines_at, lines_from}
use Rattle.lw_canonical.proofs.Rearranged.{is_task_line, stated, AreLinesWritten}
use Rattle.lw_canonical.proofs.TaskLineAlone.{read_has_line}
use Rattle.lw_canonical.proofs.FreeLines.{other_name, new_names}
use Rattle.lw_canonical.proofs.PairsFound.{IsOneOf, one_split, pairs_named}
use Rattle.lw_canonical.proofs.LinesApart.{AreOthersNamed, others_named}
use Rattle.std.proofs.lemmas.Bool.{true≢false, false≢true, eqb-true, eq-eqb}
use Rattle.std.proofs.lemmas.Grind.{reverse_onto}

-- the line opens the window with this outer layer
abbrev pub opens : List ℕ → Line → Bool
opens n (GzzLine g (OpenGzz inner kind place r classes title)) = bytes_eq n g
opens n l = false

-- so many, with one more where the test holds
abbrev pub one_more : Bool → ℕ → ℕ
one_more true k = suc k
one_more false k = k

-- how many of these lines do
abbrev pub openings : List ℕ → List Line → ℕ
openings n [] = 0
openings n (l ∷ ls) = one_more (opens n l) (openings n ls)

-- a name that isn't among the names
none_opens : (names : List (List ℕ)) (n : List ℕ) (ls : List Line) → AreOthersNamed names ls → list_any (bytes_eq n) names ≡ false → openings n ls ≡ 0
none_opens names n [] h e = refl
none_opens names n (StatementLine f ∷ ls) h e = none_opens names n ls h e
none_opens names n (AreaLine layer pattern points ∷ ls) h e = none_opens names n ls h e
none_opens names n (GzzLine g (OpenGzz inner kind place r classes title) ∷ ls) h e =
    ap₂ one_more (go (bytes_eq n g) refl) (none_opens names n ls h.1 e)
  where
    go : (b : Bool) → bytes_eq n g ≡ b → b ≡ false
    go false d = refl
    go true d = absurd (true≢false (sym h.0 ∙ (ap (λ (m : List ℕ). list_any (bytes_eq m) names) (sym (equal_names n g d)) ∙ e)))
none_opens names n (GzzLine g (InFrontGzz m) ∷ ls) h e = none_opens names n ls h.1 e
none_opens names n (GzzLine g (BoxGzz r) ∷ ls) h e = none_opens names n ls h e
none_opens names n (GzzLine g FrontGzz ∷ ls) h e = none_opens names n ls h e
none_opens names n (GzzLine g BehindGzz ∷ ls) h e = none_opens names n ls h e
none_opens names n (GzzLine g CloseGzz ∷ ls) h e = none_opens names n ls h e

-- One line of a script opens each of its windows.
pub opened_once : (s : Setting) (ls : List Line) → AreLinesWritten s ls → (q : NamedPair) → IsOneOf q (told (stated ls)).pairs → openings q.outer ls ≡ 1
opened_once s [] w q one = absurd one
opened_once s (AreaLine layer pattern points ∷ ls) w q one = absurd w.0
opened_once s (StatementLine (PairMade outer inner) ∷ ls) w q one = absurd (false≢true (read_has_line s (told (stated ls)) (PairMade outer inner) w.0.0))
opened_once s (StatementLine f ∷ ls) w q one = opened_once s ls w.1 q one
opened_once s (GzzLine g (OpenGzz inner kind place r classes title) ∷ ls) w q one = go (opened_once s ls w.1 q) (one_split q (told (stated ls)).pairs (record { outer = g; inner = inner }) one)
  where
    new : list_any (bytes_eq g) (told (stated ls)).names ≡ false
    new =
        let act : GzzAct = OpenGzz inner kind place r classes title in
        (new_names (told (stated ls)) g inner (gzz_passed (told (stated ls)) g act (line_good s (stated ls) (written (GzzLine g act)) (GzzLine g act) w.0).1).new).outer

    go : (IsOneOf q (told (stated ls)).pairs → openings q.outer ls ≡ 1) → IsOneOf q (told (stated ls)).pairs ⊎ (q ≡ record { outer = g; inner = inner }) → one_more (bytes_eq q.outer g) (openings q.outer ls) ≡ 1
    go rest (inl old) =
        let other : bytes_eq q.outer g ≡ false = other_name (told (stated ls)).names q.outer g (pairs_named s ls w.1 q old).0 new in
        ap₂ one_more other (rest old)
    go rest (inr e) =
        let same : q.outer ≡ g = ap (λ (t : NamedPair). t.outer) e in
        let is : bytes_eq q.outer g ≡ true = ap (λ (n : List ℕ). bytes_eq n g) same ∙ same_name g in
        let none : openings q.outer ls ≡ 0 = ap (λ (n : List ℕ). openings n ls) same ∙ none_opens (told (stated ls)).names g ls (others_named s ls w.1) new in
        ap₂ one_more is none
opened_once s (GzzLine g (BoxGzz r) ∷ ls) w q one = opened_once s ls w.1 q one
opened_once s (GzzLine g FrontGzz ∷ ls) w q one = opened_once s ls w.1 q one
opened_once s (GzzLine g BehindGzz ∷ ls) w q one = opened_once s ls w.1 q one
opened_once s (GzzLine g (InFrontGzz m) ∷ ls) w q one = opened_once s ls w.1 q one
opened_once s (GzzLine g CloseGzz ∷ ls) w q one = opened_once s ls w.1 q one

-- a sum of so many terms, from one on
abbrev total : (ℕ → ℕ) → ℕ → ℕ → ℕ
total f a zero = 0
total f a (suc n) = f a + total f (a + 1) n

-- a number that is no less than another is that one or more
from_there : (a i : ℕ) → a ≤ i → (i ≡ a) ⊎ (a + 1 ≤ i)
from_there a i low = go (i == a) refl
  where
    go : (b : Bool) → (i == a) ≡ b → (i ≡ a) ⊎ (a + 1 ≤ i)
    go true e = inl (eqb-true i a e)
    go false e = inr (let differ : i ≢ a = (λ same. true≢false (sym (eq-eqb i a same) ∙ e)) in omega (arith, low, differ))

some_term : (f : ℕ → ℕ) (a n : ℕ) → 0 < total f a n → (i : ℕ) × (a ≤ i) × (i < a + n) × (0 < f i)
some_term f a zero h = absurd (omega (arith, h))
some_term f a (suc n) h = go (f a) refl (some_term f (a + 1) n)
  where
    go : (k : ℕ) → f a ≡ k → (0 < total f (a + 1) n → (i : ℕ) × (a + 1 ≤ i) × (i < (a + 1) + n) × (0 < f i)) → (i : ℕ) × (a ≤ i) × (i < a + suc n) × (0 < f i)
    go zero e rest =
        let r = rest (omega (arith, h, e)) in
        (r.0, omega (arith, r.1), omega (arith, r.2), r.3)
    go (suc k) e rest = (a, omega arith, omega arith, omega (arith, e))

term_least : (f : ℕ → ℕ) (a n i : ℕ) → a ≤ i → i < a + n → f i ≤ total f a n
term_least f a zero i low high = absurd (omega (arith, low, high))
term_least f a (suc n) i low high = go (from_there a i low) (λ more. term_least f (a + 1) n i more (omega (arith, high)))
  where
    go : (i ≡ a) ⊎ (a + 1 ≤ i) → (a + 1 ≤ i → f i ≤ total f (a + 1) n) → f i ≤ f a + total f (a + 1) n
    go (inl e) rest = let same : f i ≡ f a = ap f e in omega (arith, same)
    go (inr more) rest = let k = rest more in omega (arith, k)

one_term : (f : ℕ → ℕ) (a n i j : ℕ) → total f a n ≤ 1 → a ≤ i → i < a + n → a ≤ j → j < a + n → 0 < f i → 0 < f j → i ≡ j
one_term f a zero i j few low high from to x y = absurd (omega (arith, low, high))
one_term f a (suc n) i j few low high from to x y = go (λ p q. one_term f (a + 1) n i j (omega (arith, few)) p (omega (arith, high)) q (omega (arith, to)) x y) (from_there a i low) (from_there a j from)
  where
    go : (a + 1 ≤ i → a + 1 ≤ j → i ≡ j) → (i ≡ a) ⊎ (a + 1 ≤ i) → (j ≡ a) ⊎ (a + 1 ≤ j) → i ≡ j
    go rest (inl e) (inl d) = e ∙ sym d
    go rest (inl e) (inr more) =
        let same : f i ≡ f a = ap f e in
        let k = term_least f (a + 1) n j more (omega (arith, to)) in
        absurd (omega (arith, same, k, few, x, y))
    go rest (inr more) (inl d) =
        let same : f j ≡ f a = ap f d in
        let k = term_least f (a + 1) n i more (omega (arith, high)) in
        absurd (omega (arith, same, k, few, x, y))
    go rest (inr more) (inr further) = rest more further

-- The openings of one window.
module _ (n : List ℕ) where
  pub append_opens : (xs ys : List Line) → openings n (xs ++ ys) ≡ openings n xs + openings n ys
  append_opens [] ys = omega arith
  append_opens (x ∷ xs) ys = ap (one_more (opens n x)) (append_opens xs ys) ∙ go (opens n x) (openings n xs) (openings n ys)
    where
      go : (b : Bool) (k m : ℕ) → one_more b (k + m) ≡ one_more b k + m
      go true k m = omega arith
      go false k m = refl

  pub reversed_opens : (xs : List Line) → openings n (reverse xs) ≡ openings n xs
  reversed_opens [] = refl
  reversed_opens (x ∷ xs) =
      ap (openings n) (reverse_onto xs x []) ∙ append_opens (reverse xs) (x ∷ []) ∙ go (opens n x) (openings n (reverse xs)) (openings n xs) (reversed_opens xs)
    where
      go : (b : Bool) (k m : ℕ) → k ≡ m → k + one_more b 0 ≡ one_more b m
      go true k m e = omega (arith, e)
      go false k m e = omega (arith, e)

  pub filtered_opens : (xs : List Line) → openings n (filter is_task_line xs) ≡ openings n xs
  filtered_opens [] = refl
  filtered_opens (GzzLine g act ∷ xs) = ap (one_more (opens n (GzzLine g act))) (filtered_opens xs)
  filtered_opens (AreaLine layer pattern points ∷ xs) = filtered_opens xs
  filtered_opens (StatementLine f ∷ xs) = go (is_task_line (StatementLine f)) ∙ filtered_opens xs
    where
      go : (b : Bool) → openings n (cond b (StatementLine f ∷ filter is_task_line xs) (filter is_task_line xs)) ≡ openings n (filter is_task_line xs)
      go true = refl
      go false = refl

  numbered_opens : (f : ℕ → List Line) (a m : ℕ) → openings n (flat_map f (range_with_len a m)) ≡ total (λ i. openings n (f i)) a m
  numbered_opens f a zero = refl
  numbered_opens f a (suc m) = append_opens (f a) (flat_map f (range_with_len (a + 1) m)) ∙ ap (λ k. openings n (f a) + k) (numbered_opens f (a + 1) m)

  -- the one among those that are gathered by number
  pub one_numbered : (f : ℕ → List Line) (m : ℕ) → openings n (flat_map f (range_with_len 0 m)) ≡ 1 → (i : ℕ) × (i < m) × (0 < openings n (f i))
  one_numbered f m e =
      let same = numbered_opens f 0 m in
      let r = some_term (λ i. openings n (f i)) 0 m (omega (arith, e, same)) in
      (r.0, omega (arith, r.2), r.3)

  pub same_numbered : (f : ℕ → List Line) (m i j : ℕ) → openings n (flat_map f (range_with_len 0 m)) ≡ 1 → i < m → j < m → 0 < openings n (f i) → 0 < openings n (f j) → i ≡ j
  same_numbered f m i j e low high x y =
      let same = numbered_opens f 0 m in
      one_term (λ k. openings n (f k)) 0 m i j (omega (arith, e, same)) (omega arith) (omega (arith, low)) (omega arith) (omega (arith, high)) x y

  pub numbered_few : (f : ℕ → List Line) (m i : ℕ) → openings n (flat_map f (range_with_len 0 m)) ≡ 1 → i < m → openings n (f i) ≤ 1
  numbered_few f m i e low =
      let same = numbered_opens f 0 m in
      let k = term_least (λ j. openings n (f j)) 0 m i (omega arith) (omega (arith, low)) in
      omega (arith, e, same, k)

  -- Lines of groups.
  module _ (p : Plan) (calls : List Call) (groups : List Group) where
    none_closes : (x : Group) → openings n (lines_closing p calls x) ≡ 0
    none_closes x = go (word_for p.pairs calls x) x.hold (is_update calls x)
      where
        go : (o : Option (Pair × GzzWord)) (h : Hold) (b : Bool) → openings n (or_closing o (closing_lines p.slot_names h b)) ≡ 0
        go (Some w) h b = refl
        go None (Slot s) true = refl
        go None (Slot s) false = refl
        go None AllLayers b = refl

    none_after : (gs : List Group) (m : ℕ) → openings n (flat_map (λ g. cond (g.last == m) (lines_closing p calls g) []) gs) ≡ 0
    none_after [] m = refl
    none_after (g ∷ gs) m =
        let e = append_opens (cond (g.last == m) (lines_closing p calls g) []) (flat_map (λ x. cond (x.last == m) (lines_closing p calls x) []) gs) in
        let rest = none_after gs m in
        let first = go (g.last == m) in
        omega (arith, e, rest, first)
      where
        go : (b : Bool) → openings n (cond b (lines_closing p calls g) []) ≡ 0
        go true = none_closes g
        go false = refl

    none_at : (m : ℕ) (c : Call) → openings n (lines_at p calls groups m c) ≡ 0
    none_at m c = go (is_of_word p calls groups m) _
      where
        go : (b : Bool) (f : Statement) → openings n (cond b [] (StatementLine f ∷ [])) ≡ 0
        go true f = refl
        go false f = refl

    from_opens : (m : ℕ) (cs : List Call) → openings n (lines_from p calls groups m cs) ≡ total (λ i. openings n (lines_before p calls groups i)) m (length cs)
    from_opens m [] = refl
    from_opens m (c ∷ cs) =
        let before : List Line = lines_before p calls groups m in
        let at : List Line = lines_at p calls groups m c in
        let after : List Line = lines_after p calls groups m in
        let below : List Line = lines_from p calls groups (m + 1) cs in
        let d = append_opens (before ++ at ++ after) below in
        let e = append_opens (before ++ at) after in
        let f = append_opens before at in
        let none = none_at m c in
        let closed : openings n after ≡ 0 = none_after groups m in
        let rest = from_opens (m + 1) cs in
        omega (arith, d, e, f, none, closed, rest)

    -- the one place among the calls
    pub one_from : (cs : List Call) → 0 < openings n (lines_from p calls groups 0 cs) → (i : ℕ) × (i < length cs) × (0 < openings n (lines_before p calls groups i))
    one_from cs h =
        let same = from_opens 0 cs in
        let r = some_term (λ i. openings n (lines_before p calls groups i)) 0 (length cs) (omega (arith, h, same)) in
        (r.0, omega (arith, r.2), r.3)

    pub from_least : (cs : List Call) (i : ℕ) → i < length cs → openings n (lines_before p calls groups i) ≤ openings n (lines_from p calls groups 0 cs)
    from_least cs i low =
        let same = from_opens 0 cs in
        let k = term_least (λ j. openings n (lines_before p calls groups j)) 0 (length cs) i (omega arith) (omega (arith, low)) in
        omega (arith, same, k)

    pub same_from : (cs : List Call) (i j : ℕ) → openings n (lines_from p calls groups 0 cs) ≤ 1 → i < length cs → j < length cs → 0 < openings n (lines_before p calls groups i) → 0 < openings n (lines_before p calls groups j) → i ≡ j
    same_from cs i j few low high x y =
        let same = from_opens 0 cs in
        one_term (λ k. openings n (lines_before p calls groups k)) 0 (length cs) i j (omega (arith, few, same)) (omega arith) (omega (arith, low)) (omega arith) (omega (arith, high)) x y

    -- the one group
    abbrev here : ℕ → Group → List Line
    here m g = cond (g.first == m) (lines_opening p calls g) []

    pub one_here : (gs : List Group) (m : ℕ) → 0 < openings n (flat_map (here m) gs) → (g : Group) × Contains gs g × (g.first ≡ m) × (0 < openings n (lines_opening p calls g))
    one_here [] m h = absurd (omega (arith, h))
    one_here (g ∷ gs) m h = go (g.first == m) refl
        (λ none. let e = append_opens (here m g) (flat_map (here m) gs) in later (one_here gs m (omega (arith, h, e, none))))
      where
        later : (x : Group) × Contains gs x × (x.first ≡ m) × (0 < openings n (lines_opening p calls x)) → (x : Group) × Contains (g ∷ gs) x × (x.first ≡ m) × (0 < openings n (lines_opening p calls x))
        later r = (r.0, (suc r.1.0, omega (arith, r.1.1), r.1.2), r.2, r.3)

        count : (g.first == m) ≡ true → (k : ℕ) → openings n (lines_opening p calls g) ≡ k → (openings n (here m g) ≡ 0 → (x : Group) × Contains (g ∷ gs) x × (x.first ≡ m) × (0 < openings n (lines_opening p calls x))) → (x : Group) × Contains (g ∷ gs) x × (x.first ≡ m) × (0 < openings n (lines_opening p calls x))
        count e zero d rest = rest (ap (λ b. openings n (cond b (lines_opening p calls g) [])) e ∙ d)
        count e (suc k) d rest = (g, (0, omega arith, refl), eqb-true g.first m e, omega (arith, d))

        go : (b : Bool) → (g.first == m) ≡ b → (openings n (here m g) ≡ 0 → (x : Group) × Contains (g ∷ gs) x × (x.first ≡ m) × (0 < openings n (lines_opening p calls x))) → (x : Group) × Contains (g ∷ gs) x × (x.first ≡ m) × (0 < openings n (lines_opening p calls x))
        go false e rest = rest (ap (λ b. openings n (cond b (lines_opening p calls g) [])) e)
        go true e rest = count e (openings n (lines_opening p calls g)) refl rest

    at_here : (m : ℕ) (g : Group) → g.first ≡ m → openings n (here m g) ≡ openings n (lines_opening p calls g)
    at_here m g e = ap (λ b. openings n (cond b (lines_opening p calls g) [])) (eq-eqb g.first m e)

    pub here_least : (gs : List Group) (m : ℕ) (g : Group) → Contains gs g → g.first ≡ m → openings n (lines_opening p calls g) ≤ openings n (flat_map (here m) gs)
    here_least [] m g h e = absurd (omega (arith, h.1))
    here_least (x ∷ xs) m g (zero, low, is) e =
        let d = append_opens (here m x) (flat_map (here m) xs) in
        let same : openings n (here m x) ≡ openings n (here m g) = ap (λ (t : Group). openings n (here m t)) is in
        let k = at_here m g e in
        omega (arith, d, same, k)
    here_least (x ∷ xs) m g (suc j, low, is) e =
        let d = append_opens (here m x) (flat_map (here m) xs) in
        let k = here_least xs m g (j, omega (arith, low), is) e in
        omega (arith, d, k)

    pub same_here : (gs : List Group) (m : ℕ) (g h : Group) → openings n (flat_map (here m) gs) ≤ 1 → Contains gs g → Contains gs h → g.first ≡ m → h.first ≡ m → 0 < openings n (lines_opening p calls g) → 0 < openings n (lines_opening p calls h) → g ≡ h
    same_here [] m g h few a b d e x y = absurd (omega (arith, a.1))
    same_here (t ∷ ts) m g h few (zero, low, is) (zero, high, same) d e x y = sym is ∙ same
    same_here (t ∷ ts) m g h few (zero, low, is) (suc j, high, same) d e x y =
        let all = append_opens (here m t) (flat_map (here m) ts) in
        let first : openings n (here m t) ≡ openings n (here m g) = ap (λ (z : Group). openings n (here m z)) is in
        let at = at_here m g d in
        let k = here_least ts m h (j, omega (arith, high), same) e in
        absurd (omega (arith, all, first, at, k, few, x, y))
    same_here (t ∷ ts) m g h few (suc i, low, is) (zero, high, same) d e x y =
        let all = append_opens (here m t) (flat_map (here m) ts) in
        let first : openings n (here m t) ≡ openings n (here m h) = ap (λ (z : Group). openings n (here m z)) same in
        let at = at_here m h e in
        let k = here_least ts m g (i, omega (arith, low), is) d in
        absurd (omega (arith, all, first, at, k, few, x, y))
    same_here (t ∷ ts) m g h few (suc i, low, is) (suc j, high, same) d e x y =
        let all = append_opens (here m t) (flat_map (here m) ts) in
        same_here ts m g h (omega (arith, all, few)) (i, omega (arith, low), is) (j, omega (arith, high), same) d e x y
