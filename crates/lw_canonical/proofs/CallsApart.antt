-- What the lines of a plan's tasks tell of its calls and groups, where none of them parts a window of two layers: each call that
-- may part one stands in a group that stands for what is done with one, which has a box that such a window may have and comes
-- between no other two layers.
use Rattle.std.proofs.Common.{◌≡◌, ℕ, zero, suc, ◌+◌, ◌-◌, ◌==◌, true, false, not, ◌&&◌, List, [], ◌∷◌, ◌++◌, map, take, drop, cond, flat_map, bytes_eq, All, Contains, ℤ, pos, negsuc, ◌+ℤ◌, ◌-ℤ◌, ◌≤ℤ◌, Option, Some, None, refl, sym, ap, subst, ◌∙◌, arith, inl, inr}
use Rattle.std.specs.List.{slice_get}
use Rattle.lw_region.specs.Rectangle.{within}
use Rattle.lw_calls.specs.declared.sizes.Sizes.{Sizes}
use Rattle.lw_calls.specs.declared.pair.Pair.{Pair}
use Rattle.lw_calls.specs.declared.call.Call.{Call}
use Rattle.lw_calls.specs.declared.call.Call.TheVariants.{Create, OpenWindow, Close, ToFront, ToBack, InFrontOf, MoveBy, SizeBy, SetBox, Activate}
use Rattle.lw_calls.specs.declared.group.Hold.{Hold}
use Rattle.lw_calls.specs.declared.group.Hold.TheVariants.{Slot, All as AllLayers}
use Rattle.lw_calls.specs.declared.group.Group.{Group}
use Rattle.lw_calls.specs.Plan.{Plan, group_calls}
use Rattle.lw_calls.specs.Limits.{is_coordinate, coordinates_fit}
use Rattle.lw_gzz.specs.declared.word.GzzWord.{GzzWord}
use Rattle.lw_gzz.specs.declared.word.GzzWord.TheVariants.{Open as OpenWord, SetBox as BoxWord, Front as FrontWord, Behind as BehindWord, InFrontOf as PlaceWord, Close as CloseWord}
use Rattle.lw_gzz.specs.Words.{expansion, Spells}
use Rattle.lw_gzz.specs.Recognition.{word_of}
use Rattle.lw_gzz.specs.Together.{may_part, HasPairBox, IsPairBox, puts_before}
use Rattle.lw_gzz.proofs.Spelling.{exact}
use Rattle.lw_grammar.specs.declared.verb.BareVerb.TheVariants.{Close as CloseVerb, Front as FrontVerb, Behind as BehindVerb, Activate as ActivateVerb}
use Rattle.lw_grammar.specs.declared.verb.PairVerb.TheVariants.{Move as MoveVerb, Size as SizeVerb}
use Rattle.lw_grammar.specs.Statements.{BareAct, PairAct, CreateAct, OpenAct, InFrontAct, BoxAct, Line, is_gzz_box, is_gzz_in_range, box}
use Rattle.lw_grammar.specs.Told.{NamedPair, pair_among}
use Rattle.lw_grammar.specs.Script.{parts_pair, is_outer, comes_between}
use Rattle.lw_canonical.specs.Canonical.{line_of_call, or_word, word_among, word_held, act_of_word, lines_opening, lines_before, lines_after, lines_at, lines_from, new_layer_of, created_bounds, opened_box}
use Rattle.lw_canonical.proofs.FreeCalls.{is_free_call, not_so, name_at, other_slot, AreFoundPairs, call_is_free}
use Rattle.lw_canonical.proofs.GzzWords.{IsIn}
use Rattle.lw_canonical.proofs.LinesApart.{AreEach, each_left, each_right}
use Rattle.std.proofs.lemmas.Int.{ints}
use Rattle.std.proofs.lemmas.Bool.Decides.{nat_tests}
use Rattle.std.proofs.lemmas.Bool.{and_parts, or_parts, eq-eqb}

-- The call whose line parts none of these windows is free of all of them.
pub line_free : (names bitmaps : List (List ℕ)) (qs : List NamedPair) (c : Call) → AreFoundPairs names qs → parts_pair qs (line_of_call names bitmaps c) ≡ false → is_free_call (map (pair_among names) qs) c ≡ true
line_free names bitmaps qs (Create s m) f h = call_is_free names bitmaps qs (s ∷ []) (CreateAct (created_bounds m) (new_layer_of m)) refl f h
line_free names bitmaps qs (OpenWindow s m framed nocare asks title) f h = call_is_free names bitmaps qs (s ∷ []) (OpenAct (opened_box m) (new_layer_of m) framed nocare asks title) refl f h
line_free names bitmaps qs (Close s) f h = call_is_free names bitmaps qs (s ∷ []) (BareAct CloseVerb) refl f h
line_free names bitmaps qs (ToFront s) f h = call_is_free names bitmaps qs (s ∷ []) (BareAct FrontVerb) refl f h
line_free names bitmaps qs (ToBack s) f h = call_is_free names bitmaps qs (s ∷ []) (BareAct BehindVerb) refl f h
line_free names bitmaps qs (InFrontOf s t) f h = call_is_free names bitmaps qs (s ∷ t ∷ []) InFrontAct refl f h
line_free names bitmaps qs (MoveBy s dx dy) f h = call_is_free names bitmaps qs (s ∷ []) (PairAct MoveVerb dx dy) refl f h
line_free names bitmaps qs (SizeBy s dw dh) f h = call_is_free names bitmaps qs (s ∷ []) (PairAct SizeVerb dw dh) refl f h
line_free names bitmaps qs (SetBox s x y w b) f h = call_is_free names bitmaps qs (s ∷ []) (BoxAct (box x y w b)) refl f h
line_free names bitmaps qs (Activate s) f h = call_is_free names bitmaps qs (s ∷ []) (BareAct ActivateVerb) refl f h
line_free names bitmaps qs c f h = go (map (pair_among names) qs)
  where
    go : (ps : List Pair) → is_free_call ps c ≡ true
    go [] = refl
    go (p ∷ ps) = go ps

-- as one of the pairs is by its place
pub each_free : (c : Call) (ps : List Pair) → is_free_call ps c ≡ true → All (λ p. may_part p c ≡ false) ps
each_free c [] h k d low = absurd (omega (arith, low))
each_free c (p ∷ ps) h zero d low = not_so _ (and_parts (not (may_part p c)) (is_free_call ps c) h).0
each_free c (p ∷ ps) h (suc k) d low = each_free c ps (and_parts (not (may_part p c)) (is_free_call ps c) h).1 k d (omega (arith, low))

-- Calls that stand for a word of one of the pairs stand for it done with one of them.
pub among_found : (ps : List Pair) (cs : List Call) (w : Pair × GzzWord) → word_among ps cs ≡ Some w → Contains ps w.0 × Spells w.0 w.1 cs
among_found [] cs w h = absurd (cc)
among_found (p ∷ ps) cs w h = go (word_of p cs) refl h (among_found ps cs w)
  where
    go : (o : Option GzzWord) → word_of p cs ≡ o → or_word p o (word_among ps cs) ≡ Some w → (word_among ps cs ≡ Some w → Contains ps w.0 × Spells w.0 w.1 cs) → Contains (p ∷ ps) w.0 × Spells w.0 w.1 cs
    go None e k rest =
        let r = rest k in
        ((suc r.0.0, omega (arith, r.0.1), r.0.2), r.1)
    go (Some word) e k rest =
        let same : (let t : Pair × GzzWord = (p, word) in t) ≡ w = cc in
        subst (λ (t : Pair × GzzWord). Contains (p ∷ ps) t.0 × Spells t.0 t.1 cs) same ((0, omega arith, refl), (exact p cs).spelled word e)

pub held_found : (ps : List Pair) (cs : List Call) (o : Hold) (w : Pair × GzzWord) → word_held ps cs o ≡ Some w → (o ≡ AllLayers) × (word_among ps cs ≡ Some w)
held_found ps cs (Slot s) w h = absurd (cc)
held_found ps cs AllLayers w h = (refl, h)

-- a pair by its place
pub is_in : (ps : List Pair) (p : Pair) → Contains ps p → IsIn p ps
is_in [] p h = absurd (omega (arith, h.1))
is_in (q ∷ qs) p (zero, low, is) = inl (sym is)
is_in (q ∷ qs) p (suc k, low, is) = inr (is_in qs p (k, omega (arith, low), is))

-- the first call of a group that has calls
first_there : (m k : ℕ) (calls : List Call) (c : Call) (cs : List Call) → c ∷ cs ≡ take m (drop k calls) → slice_get calls k ≡ Some c
first_there zero k calls c cs h = absurd (cc)
first_there (suc m) zero [] c cs h = absurd (cc)
first_there (suc m) zero (d ∷ ds) c cs h = let same : c ≡ d = cc in ap (λ (t : Call). Some t) (sym same)
first_there (suc m) (suc k) [] c cs h = absurd (cc)
first_there (suc m) (suc k) (d ∷ ds) c cs h = first_there (suc m) k ds c cs h

starts : (p : Pair) (word : GzzWord) (m k : ℕ) (calls : List Call) → expansion p word ≡ take m (drop k calls) → (c : Call) × (slice_get calls k ≡ Some c)
starts p (OpenWord kind place x y w h asks title) m k calls e = (_, first_there m k calls _ _ e)
starts p (BoxWord x y w h) m k calls e = (_, first_there m k calls _ _ e)
starts p FrontWord m k calls e = (_, first_there m k calls _ _ e)
starts p BehindWord m k calls e = (_, first_there m k calls _ _ e)
starts p (PlaceWord other) m k calls e = (_, first_there m k calls _ _ e)
starts p CloseWord m k calls e = (_, first_there m k calls _ _ e)

pub first_call : (calls : List Call) (g : Group) (p : Pair) (word : GzzWord) → Spells p word (group_calls calls g) → (c : Call) × (slice_get calls g.first ≡ Some c)
first_call calls g p word h = starts p word ((g.last + 1) - g.first) g.first calls h.1

-- both ends of a range
parted : (low z high : ℤ) → within low z high ≡ true → (low ≤ℤ z) × (z ≤ℤ high)
unfolding within
parted low z high d = (grind (arith, ints, nat_tests), grind (arith, ints, nat_tests))

-- The box of a word is one that a pair may have, where that of its line is.
box_of : (s : Sizes) (x y w h : ℤ) → is_gzz_box s.width s.height (box x y w h) ≡ true → IsPairBox s x y w h
box_of s x y w h e =
    let corner = and_parts (coordinates_fit x y) _ e in
    let rest = and_parts (within (pos 9) w (pos s.width) && within (pos 14) h (pos s.height)) _ corner.1 in
    let low = and_parts (is_coordinate x) (is_coordinate y) corner.0 in
    let size = and_parts (within (pos 9) w (pos s.width)) (within (pos 14) h (pos s.height)) rest.0 in
    let far = and_parts (is_coordinate ((x +ℤ w) -ℤ pos 1)) (is_coordinate ((y +ℤ h) -ℤ pos 1)) rest.1 in
    let left = parted (negsuc 32767) x (pos 32767) low.0 in
    let upper = parted (negsuc 32767) y (pos 32767) low.1 in
    let columns = parted (pos 9) w (pos s.width) size.0 in
    let rows = parted (pos 14) h (pos s.height) size.1 in
    let right = parted (negsuc 32767) ((x +ℤ w) -ℤ pos 1) (pos 32767) far.0 in
    let lower = parted (negsuc 32767) ((y +ℤ h) -ℤ pos 1) (pos 32767) far.1 in
    record { left = left.0; right = right.1; upper = upper.0; lower = lower.1; least_columns = columns.0; columns = columns.1; least_rows = rows.0; rows = rows.1 }

pub word_boxed : (s : Sizes) (names : List (List ℕ)) (p : Pair) (word : GzzWord) → is_gzz_in_range s.width s.height (act_of_word names p word) ≡ true → HasPairBox s word
word_boxed s names p (OpenWord kind place x y w h asks title) e = box_of s x y w h e
word_boxed s names p (BoxWord x y w h) e = box_of s x y w h e
word_boxed s names p FrontWord e = tt
word_boxed s names p BehindWord e = tt
word_boxed s names p (PlaceWord other) e = tt
word_boxed s names p CloseWord e = tt

-- A word whose line comes between no two layers puts its pair before no outer window.
not_before : (names : List (List ℕ)) (qs : List NamedPair) (m : ℕ) → AreFoundPairs names qs → is_outer qs (name_at names m) ≡ false → All (λ q. (m == q.outer) ≡ false) (map (pair_among names) qs)
not_before names [] m f h k d low = absurd (omega (arith, low))
not_before names (q ∷ qs) m f h zero d low = other_slot names m q.outer f.0.outer (or_parts (bytes_eq (name_at names m) q.outer) (is_outer qs (name_at names m)) h).0
not_before names (q ∷ qs) m f h (suc k) d low = not_before names qs m f.1 (or_parts (bytes_eq (name_at names m) q.outer) (is_outer qs (name_at names m)) h).1 k d (omega (arith, low))

none_before : (ps : List Pair) → All (λ (q : Pair). false ≡ false) ps
none_before ps k d low = refl

pub word_not_between : (names : List (List ℕ)) (qs : List NamedPair) (p : Pair) (word : GzzWord) → AreFoundPairs names qs → comes_between qs (act_of_word names p word) ≡ false → All (λ q. puts_before q.outer word ≡ false) (map (pair_among names) qs)
word_not_between names qs p (OpenWord kind place x y w h asks title) f e = none_before (map (pair_among names) qs)
word_not_between names qs p (BoxWord x y w h) f e = none_before (map (pair_among names) qs)
word_not_between names qs p FrontWord f e = none_before (map (pair_among names) qs)
word_not_between names qs p BehindWord f e = none_before (map (pair_among names) qs)
word_not_between names qs p (PlaceWord other) f e = not_before names qs other f e
word_not_between names qs p CloseWord f e = none_before (map (pair_among names) qs)

-- The lines of a task's calls and groups, of each of which P holds.
module _ (P : Line → Type 0) (p : Plan) (calls : List Call) (groups : List Group) where
  each_parts : (n : ℕ) (c : Call) (cs : List Call) → AreEach P (lines_from p calls groups n (c ∷ cs)) → AreEach P (lines_before p calls groups n) × AreEach P (lines_at p calls groups n c) × AreEach P (lines_from p calls groups (n + 1) cs)
  each_parts n c cs h =
      let before : List Line = lines_before p calls groups n in
      let at : List Line = lines_at p calls groups n c in
      let after : List Line = lines_after p calls groups n in
      let below : List Line = lines_from p calls groups (n + 1) cs in
      let first = each_left P (before ++ at ++ after) below h in
      let two = each_left P (before ++ at) after first in
      (each_left P before at two, each_right P before at two, each_right P (before ++ at ++ after) below h)

  -- those at one call
  pub each_at : (n k m : ℕ) (cs : List Call) (c : Call) → AreEach P (lines_from p calls groups n cs) → slice_get cs k ≡ Some c → m ≡ n + k → AreEach P (lines_before p calls groups m) × AreEach P (lines_at p calls groups m c)
  each_at n k m [] c h e i = absurd (cc)
  each_at n zero m (d ∷ ds) c h e i =
      let same : c ≡ d = cc in
      let here : n ≡ m = omega (arith, i) in
      let parts = each_parts n d ds h in
      (subst (λ j. AreEach P (lines_before p calls groups j)) here parts.0, subst (λ j. AreEach P (lines_at p calls groups j c)) here (subst (λ (x : Call). AreEach P (lines_at p calls groups n x)) (sym same) parts.1))
  each_at n (suc k) m (d ∷ ds) c h e i = each_at (n + 1) k m ds c (each_parts n d ds h).2 e (omega (arith, i))

  -- what opens a group
  pub each_opening : (gs : List Group) (g : Group) (n : ℕ) → AreEach P (flat_map (λ x. cond (x.first == n) (lines_opening p calls x) []) gs) → Contains gs g → g.first ≡ n → AreEach P (lines_opening p calls g)
  each_opening [] g n h has e = absurd (omega (arith, has.1))
  each_opening (x ∷ xs) g n h (zero, low, is) e =
      let at = each_left P (cond (x.first == n) (lines_opening p calls x) []) _ h in
      let test : (x.first == n) ≡ true = ap (λ (t : Group). t.first == n) is ∙ eq-eqb g.first n e in
      subst (λ (t : Group). AreEach P (lines_opening p calls t)) is (subst (λ b. AreEach P (cond b (lines_opening p calls x) [])) test at)
  each_opening (x ∷ xs) g n h (suc k, low, is) e = each_opening xs g n (each_right P (cond (x.first == n) (lines_opening p calls x) []) _ h) (k, omega (arith, low), is) e
