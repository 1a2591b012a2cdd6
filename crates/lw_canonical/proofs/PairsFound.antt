-- The windows of two layers of a script's lines, and the names, bitmaps and places that further lines keep.
use Rattle.std.proofs.Common.{◌≡◌, ℕ, Bool, true, false, cond, ◌||◌, List, [], ◌∷◌, ◌++◌, map, slice_index_or, bytes_eq, refl, sym, ap, ap₂, subst, ◌∙◌, inl, inr, ◌⊎◌}
use Rattle.std.specs.List.{list_any}
use Rattle.lw_grammar.specs.Statements.{Statement, BitmapLine, CallLine, LockLine, UnlockLine, PairMade, GzzAct, OpenGzz, BoxGzz, FrontGzz, BehindGzz, InFrontGzz, CloseGzz, Line, StatementLine, AreaLine, GzzLine}
use Rattle.lw_grammar.specs.Told.{NamedPair, and_names, place_among, inner_of, inner_by, gzz_lines, told, pair_among}
use Rattle.lw_grammar.specs.Script.{Setting, is_outer, lacks_pair, added}
use Rattle.lw_grammar.proofs.ScriptNames.{equal_names, any_before, place_before, any_kept, place_kept, AreNamed, all_named}
use Rattle.lw_canonical.proofs.ByNumber.{found_itself}
use Rattle.lw_canonical.proofs.Rearranged.{stated, AreLinesWritten}
use Rattle.lw_canonical.proofs.TaskLineAlone.{read_has_line}
use Rattle.lw_canonical.proofs.GzzWords.{IsIn}
use Rattle.lw_canonical.proofs.FreeCalls.{IsFoundPair, AreFoundPairs}
use Rattle.lw_canonical.proofs.FreeLines.{IsAmong, name_kept, names_kept}
use Rattle.std.proofs.lemmas.Bool.{false≢true, not-false}

-- a name among names that had grown to these has its place in them
abbrev pub IsFoundIn : List (List ℕ) → List (List ℕ) → Type 0
IsFoundIn all names = (n : List ℕ) → list_any (bytes_eq n) names ≡ true → slice_index_or all (place_among names n) [] ≡ n

-- a name that is pushed, whether it is one of them or not
found_pushed : (all names : List (List ℕ)) (name : List ℕ) → IsFoundIn all (names ++ name ∷ []) → IsFoundIn all names
found_pushed all names name h n e =
    ap (λ k. slice_index_or all k []) (sym (place_before (bytes_eq n) names (name ∷ []) e)) ∙ h n (any_before (bytes_eq n) names (name ∷ []) e)

-- bitmaps that stood before a further statement
pub stored_below : (all : List (List ℕ)) (f : Statement) (above : List Statement) → IsFoundIn all (told (f ∷ above)).bitmap_names → IsFoundIn all (told above).bitmap_names
stored_below all (BitmapLine name w h d) above k = found_pushed all (told above).bitmap_names name k
stored_below all f above k = k

pub stored_under : (all : List (List ℕ)) (fs above : List Statement) → IsFoundIn all (told (added fs above)).bitmap_names → IsFoundIn all (told above).bitmap_names
stored_under all [] above k = k
stored_under all (f ∷ fs) above k = stored_below all f above (stored_under all fs (f ∷ above) k)

-- Names that had grown to these have their places in them.
abbrev pub IsPlacedIn : List (List ℕ) → List (List ℕ) → Type 0
IsPlacedIn all names = (n : List ℕ) → IsAmong names n → IsAmong all n × (place_among all n ≡ place_among names n)

pub placed_found : (all names : List (List ℕ)) → IsPlacedIn all names → IsFoundIn all names
placed_found all names h n e =
    let k = h n e in
    ap (λ i. slice_index_or all i []) (sym k.1) ∙ found_itself all n k.0

-- so had they before further names came
placed_before : (all names ns : List (List ℕ)) → IsPlacedIn all (and_names names ns) → IsPlacedIn all names
placed_before all names ns h n e =
    let k = h n (any_kept (bytes_eq n) names ns e) in
    (k.0, k.1 ∙ place_kept (bytes_eq n) names ns e)

pub placed_below : (all : List (List ℕ)) (f : Statement) (above : List Statement) → IsPlacedIn all (told (f ∷ above)).names → IsPlacedIn all (told above).names
placed_below all (CallLine layers act) above h = placed_before all (told above).names layers h
placed_below all (LockLine name) above h = placed_before all (told above).names (name ∷ []) h
placed_below all (UnlockLine name) above h = placed_before all (told above).names (name ∷ []) h
placed_below all f above h = h

pub placed_under : (all : List (List ℕ)) (fs above : List Statement) → IsPlacedIn all (told (added fs above)).names → IsPlacedIn all (told above).names
placed_under all [] above h = h
placed_under all (f ∷ fs) above h = placed_below all f above (placed_under all fs (f ∷ above) h)

-- each name of a list at its place
pub places_same : (all names ns : List (List ℕ)) → IsPlacedIn all names → AreNamed names ns → map (place_among names) ns ≡ map (place_among all) ns
places_same all names [] h k = refl
places_same all names (n ∷ ns) h k = ap₂ (λ (i : ℕ) (is : List ℕ). i ∷ is) (sym (h n k.0).1) (places_same all names ns h k.1)

-- the window is one of these
abbrev pub IsOneOf : NamedPair → List NamedPair → Type 0
IsOneOf q [] = ⊥
IsOneOf q (r ∷ rs) = (q ≡ r) ⊎ IsOneOf q rs

one_before : (q : NamedPair) (rs more : List NamedPair) → IsOneOf q rs → IsOneOf q (rs ++ more)
one_before q [] more h = absurd h
one_before q (r ∷ rs) more (inl e) = inl e
one_before q (r ∷ rs) more (inr h) = inr (one_before q rs more h)

one_last : (q : NamedPair) (rs : List NamedPair) → IsOneOf q (rs ++ q ∷ [])
one_last q [] = inl refl
one_last q (r ∷ rs) = inr (one_last q rs)

pub one_split : (q : NamedPair) (rs : List NamedPair) (r : NamedPair) → IsOneOf q (rs ++ r ∷ []) → IsOneOf q rs ⊎ (q ≡ r)
one_split q [] r (inl e) = inr e
one_split q [] r (inr h) = absurd h
one_split q (t ∷ rs) r (inl e) = inl (inl e)
one_split q (t ∷ rs) r (inr h) = or_first (one_split q rs r h)
  where
    or_first : IsOneOf q rs ⊎ (q ≡ r) → IsOneOf q (t ∷ rs) ⊎ (q ≡ r)
    or_first (inl k) = inl (inr k)
    or_first (inr e) = inr e

-- all of these windows are among those
abbrev pub AreAmong : List NamedPair → List NamedPair → Type 0
AreAmong rs all = (q : NamedPair) → IsOneOf q rs → IsOneOf q all

pub pairs_below : (all : List NamedPair) (f : Statement) (above : List Statement) → AreAmong (told (f ∷ above)).pairs all → AreAmong (told above).pairs all
pairs_below all (PairMade outer inner) above h = λ q k. h q (one_before q (told above).pairs _ k)
pairs_below all f above h = h

pub pairs_under : (all : List NamedPair) (fs above : List Statement) → AreAmong (told (added fs above)).pairs all → AreAmong (told above).pairs all
pairs_under all [] above h = h
pairs_under all (f ∷ fs) above h = pairs_below all f above (pairs_under all fs (f ∷ above) h)

-- a window with this outer name is one of them, with its inner name
inner_found : (pairs : List NamedPair) (g : List ℕ) → is_outer pairs g ≡ true → IsOneOf (record { outer = g; inner = inner_of pairs g }) pairs
inner_found [] g h = absurd (false≢true h)
inner_found (r ∷ rs) g h = step (bytes_eq g r.outer) refl h (inner_found rs g)
  where
    step : (b : Bool) → bytes_eq g r.outer ≡ b → (b || is_outer rs g) ≡ true → (is_outer rs g ≡ true → IsOneOf (record { outer = g; inner = inner_of rs g }) rs) → IsOneOf (record { outer = g; inner = cond b r.inner (inner_of rs g) }) (r ∷ rs)
    step true e k go = inl (ap (λ (n : List ℕ). (let q : NamedPair = record { outer = n; inner = r.inner } in q)) (equal_names g r.outer e))
    step false e k go = inr (go k)

-- The window with which a line does something is one of those that it tells.
pub pair_found : (above : List Statement) (g : List ℕ) (act : GzzAct) → lacks_pair (told above).pairs g act ≡ false → IsOneOf (record { outer = g; inner = inner_by (told above).pairs g act }) (told (added (gzz_lines (told above).pairs g act) above)).pairs
pair_found above g (OpenGzz inner kind place r classes title) h = one_last _ (told above).pairs
pair_found above g (BoxGzz r) h = inner_found (told above).pairs g (not-false _ h)
pair_found above g FrontGzz h = inner_found (told above).pairs g (not-false _ h)
pair_found above g BehindGzz h = inner_found (told above).pairs g (not-false _ h)
pair_found above g (InFrontGzz m) h = inner_found (told above).pairs g (not-false _ h)
pair_found above g CloseGzz h = inner_found (told above).pairs g (not-false _ h)

-- both names of each of these windows are among the names
abbrev pub ArePairsNamed : List (List ℕ) → List NamedPair → Type 0
ArePairsNamed names pairs = (q : NamedPair) → IsOneOf q pairs → IsAmong names q.outer × IsAmong names q.inner

still_named : (names more : List (List ℕ)) (pairs : List NamedPair) → ((n : List ℕ) → IsAmong names n → IsAmong more n) → ArePairsNamed names pairs → ArePairsNamed more pairs
still_named names more pairs f h q k = let both = h q k in (f q.outer both.0, f q.inner both.1)

also_named : (names : List (List ℕ)) (pairs : List NamedPair) (r : NamedPair) → IsAmong names r.outer → IsAmong names r.inner → ArePairsNamed names pairs → ArePairsNamed names (pairs ++ r ∷ [])
also_named names pairs r a b h q k = step (one_split q pairs r k)
  where
    step : IsOneOf q pairs ⊎ (q ≡ r) → IsAmong names q.outer × IsAmong names q.inner
    step (inl m) = h q m
    step (inr e) = subst (λ (t : NamedPair). IsAmong names t.outer × IsAmong names t.inner) (sym e) (a, b)

-- So it is of lines that are written.
pub pairs_named : (s : Setting) (ls : List Line) → AreLinesWritten s ls → ArePairsNamed (told (stated ls)).names (told (stated ls)).pairs
pairs_named s [] w = λ q k. absurd k
pairs_named s (AreaLine layer pattern points ∷ ls) w = absurd w.0
pairs_named s (StatementLine (PairMade outer inner) ∷ ls) w = absurd (false≢true (read_has_line s (told (stated ls)) (PairMade outer inner) w.0.0))
pairs_named s (StatementLine f ∷ ls) w = still_named (told (stated ls)).names _ (told (stated ls)).pairs (λ n h. name_kept f (stated ls) n h) (pairs_named s ls w.1)
pairs_named s (GzzLine g (OpenGzz inner kind place r classes title) ∷ ls) w =
    let fs : List Statement = gzz_lines (told (stated ls)).pairs g (OpenGzz inner kind place r classes title) in
    let last = all_named (and_names (and_names (told (stated ls)).names (g ∷ [])) (inner ∷ [])) (inner ∷ g ∷ []) in
    also_named _ (told (stated ls)).pairs (record { outer = g; inner = inner }) last.1.0 last.0 (still_named (told (stated ls)).names _ (told (stated ls)).pairs (λ n h. names_kept fs (stated ls) n h) (pairs_named s ls w.1))
pairs_named s (GzzLine g (BoxGzz r) ∷ ls) w = still_named (told (stated ls)).names _ (told (stated ls)).pairs (λ n h. names_kept (gzz_lines (told (stated ls)).pairs g (BoxGzz r)) (stated ls) n h) (pairs_named s ls w.1)
pairs_named s (GzzLine g FrontGzz ∷ ls) w = still_named (told (stated ls)).names _ (told (stated ls)).pairs (λ n h. names_kept (gzz_lines (told (stated ls)).pairs g FrontGzz) (stated ls) n h) (pairs_named s ls w.1)
pairs_named s (GzzLine g BehindGzz ∷ ls) w = still_named (told (stated ls)).names _ (told (stated ls)).pairs (λ n h. names_kept (gzz_lines (told (stated ls)).pairs g BehindGzz) (stated ls) n h) (pairs_named s ls w.1)
pairs_named s (GzzLine g (InFrontGzz m) ∷ ls) w = still_named (told (stated ls)).names _ (told (stated ls)).pairs (λ n h. names_kept (gzz_lines (told (stated ls)).pairs g (InFrontGzz m)) (stated ls) n h) (pairs_named s ls w.1)
pairs_named s (GzzLine g CloseGzz ∷ ls) w = still_named (told (stated ls)).names _ (told (stated ls)).pairs (λ n h. names_kept (gzz_lines (told (stated ls)).pairs g CloseGzz) (stated ls) n h) (pairs_named s ls w.1)

-- and each is found by its slots
pub found_pairs : (names : List (List ℕ)) (pairs : List NamedPair) → ArePairsNamed names pairs → AreFoundPairs names pairs
found_pairs names [] h = tt
found_pairs names (q ∷ qs) h =
    let k = h q (inl refl) in
    (record { outer = found_itself names q.outer k.0; inner = found_itself names q.inner k.1 }, found_pairs names qs (λ r e. h r (inr e)))

pub found_pair : (names : List (List ℕ)) (pairs : List NamedPair) (q : NamedPair) → IsOneOf q pairs → AreFoundPairs names pairs → IsFoundPair names q
found_pair names [] q h f = absurd h
found_pair names (r ∷ rs) q (inl e) f = subst (IsFoundPair names) (sym e) f.0
found_pair names (r ∷ rs) q (inr h) f = found_pair names rs q h f.1

pub slots_among : (names : List (List ℕ)) (pairs : List NamedPair) (q : NamedPair) → IsOneOf q pairs → IsIn (pair_among names q) (map (pair_among names) pairs)
slots_among names [] q h = absurd h
slots_among names (r ∷ rs) q (inl e) = inl (ap (pair_among names) e)
slots_among names (r ∷ rs) q (inr h) = inr (slots_among names rs q h)
