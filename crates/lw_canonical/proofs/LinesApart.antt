-- Each line of a script that does something with a window of two layers has a box that such a window may have on the script's
-- screen, and none of them puts its window in front of an outer layer, also of a window that a line below opens.
use Rattle.std.proofs.Common.{◌≡◌, ℕ, zero, suc, ◌<◌, Bool, true, false, List, [], ◌∷◌, ◌++◌, filter, reverse, flat_map, cond, bytes_eq, refl, sym, ap, subst, ◌∙◌, arith, inl, inr, ◌⊎◌}
use Rattle.std.specs.List.{range_with_len}
use Rattle.lw_grammar.specs.Statements.{LayersLine, ScreenLine, TaskLine, EndLine, OrderLine, ReportLine, PairMade, GzzAct, OpenGzz, BoxGzz, FrontGzz, BehindGzz, InFrontGzz, CloseGzz, Line, StatementLine, AreaLine, GzzLine, version_at_screen, is_gzz_in_range}
use Rattle.lw_grammar.specs.Told.{NamedPair, and_names, gzz_lines, inner_of, told}
use Rattle.lw_grammar.specs.Script.{Setting, is_screen_due, parts_pair, comes_between}
use Rattle.lw_grammar.proofs.ScriptNames.{any_kept, all_named}
use Rattle.lw_grammar.proofs.ScriptOutcome.{line_good}
use Rattle.lw_grammar.proofs.ScriptSizes.{in_calls}
use Rattle.lw_grammar.proofs.GzzLines.{IsGzzTested, gzz_passed}
use Rattle.lw_canonical.specs.Spelling.{spelled, written}
use Rattle.lw_canonical.proofs.ByNumber.{gathered_next}
use Rattle.lw_canonical.proofs.Rearranged.{stated, AreLinesWritten}
use Rattle.lw_canonical.proofs.TaskLineAlone.{read_has_line}
use Rattle.lw_canonical.proofs.FreeLines.{IsAmong, IsNew, outer_more, other_name, new_names, name_kept, names_kept, AreFree, all_free}
use Rattle.std.proofs.lemmas.Bool.{true≢false, false≢true, eqb-true}
use Rattle.std.proofs.lemmas.Grind.{reverse_onto}

-- what a line has that does something with a window, below others
gzz_of : (s : Setting) (ls : List Line) (g : List ℕ) (act : GzzAct) → AreLinesWritten s (GzzLine g act ∷ ls) → IsGzzTested (told (stated ls)) g act
gzz_of s ls g act w = gzz_passed (told (stated ls)) g act (line_good s (stated ls) (written (GzzLine g act)) (GzzLine g act) w.0).1

-- The script has version 2, or no such window.
pub pairs_versions : (s : Setting) (ls : List Line) → AreLinesWritten s ls → ((told (stated ls)).version ≡ 2) ⊎ ((told (stated ls)).pairs ≡ [])
pairs_versions s [] w = inr refl
pairs_versions s (AreaLine layer pattern points ∷ ls) w = absurd w.0
pairs_versions s (GzzLine g act ∷ ls) w =
    let read = line_good s (stated ls) (written (GzzLine g act)) (GzzLine g act) w.0 in
    inl (go act (eqb-true _ _ read.0.version))
  where
    go : (a : GzzAct) → (told (stated ls)).version ≡ 2 → (told (stated (GzzLine g a ∷ ls))).version ≡ 2
    go (OpenGzz inner kind place r classes title) e = e
    go (BoxGzz r) e = e
    go FrontGzz e = e
    go BehindGzz e = e
    go (InFrontGzz m) e = e
    go CloseGzz e = e
pairs_versions s (StatementLine LayersLine ∷ ls) w = inl refl
pairs_versions s (StatementLine (ScreenLine a b c) ∷ ls) w = go (pairs_versions s ls w.1)
  where
    go : ((told (stated ls)).version ≡ 2) ⊎ ((told (stated ls)).pairs ≡ []) → (version_at_screen (told (stated ls)).version ≡ 2) ⊎ ((told (stated ls)).pairs ≡ [])
    go (inl e) = inl (ap version_at_screen e)
    go (inr e) = inr e
pairs_versions s (StatementLine (PairMade outer inner) ∷ ls) w = absurd (false≢true (read_has_line s (told (stated ls)) (PairMade outer inner) w.0.0))
pairs_versions s (StatementLine f ∷ ls) w = pairs_versions s ls w.1

-- each of these lines has a box that such a window may have on a screen of this size
abbrev pub AreBoxed : ℕ → ℕ → List Line → Type 0
AreBoxed width height [] = Unit {0}
AreBoxed width height (StatementLine f ∷ ls) = AreBoxed width height ls
AreBoxed width height (AreaLine layer pattern points ∷ ls) = AreBoxed width height ls
AreBoxed width height (GzzLine g act ∷ ls) = (is_gzz_in_range width height act ≡ true) × AreBoxed width height ls

-- none stands above the screen
none_above : (s : Setting) (ls : List Line) → AreLinesWritten s ls → is_screen_due (told (stated ls)).section ≡ true → (width height : ℕ) → AreBoxed width height ls
none_above s [] w e width height = tt
none_above s (AreaLine layer pattern points ∷ ls) w e width height = absurd w.0
none_above s (GzzLine g act ∷ ls) w e width height =
    let read = line_good s (stated ls) (written (GzzLine g act)) (GzzLine g act) w.0 in
    let due = ap is_screen_due (in_calls (told (stated ls)).section read.0.calls) in
    absurd (true≢false (sym (go act e) ∙ due))
  where
    go : (a : GzzAct) → is_screen_due (told (stated (GzzLine g a ∷ ls))).section ≡ true → is_screen_due (told (stated ls)).section ≡ true
    go (OpenGzz inner kind place r classes title) d = d
    go (BoxGzz r) d = d
    go FrontGzz d = d
    go BehindGzz d = d
    go (InFrontGzz m) d = d
    go CloseGzz d = d
none_above s (StatementLine (ScreenLine a b c) ∷ ls) w e width height = absurd (false≢true e)
none_above s (StatementLine (TaskLine name) ∷ ls) w e width height = absurd (false≢true e)
none_above s (StatementLine EndLine ∷ ls) w e width height = absurd (false≢true e)
none_above s (StatementLine OrderLine ∷ ls) w e width height = absurd (false≢true e)
none_above s (StatementLine ReportLine ∷ ls) w e width height = absurd (false≢true e)
none_above s (StatementLine f ∷ ls) w e width height = none_above s ls w.1 e width height

pub all_boxed : (s : Setting) (ls : List Line) → AreLinesWritten s ls → AreBoxed (told (stated ls)).width (told (stated ls)).height ls
all_boxed s [] w = tt
all_boxed s (AreaLine layer pattern points ∷ ls) w = absurd w.0
all_boxed s (GzzLine g (OpenGzz inner kind place r classes title) ∷ ls) w = ((gzz_of s ls g (OpenGzz inner kind place r classes title) w).range, all_boxed s ls w.1)
all_boxed s (GzzLine g (BoxGzz r) ∷ ls) w = ((gzz_of s ls g (BoxGzz r) w).range, all_boxed s ls w.1)
all_boxed s (GzzLine g FrontGzz ∷ ls) w = (refl, all_boxed s ls w.1)
all_boxed s (GzzLine g BehindGzz ∷ ls) w = (refl, all_boxed s ls w.1)
all_boxed s (GzzLine g (InFrontGzz m) ∷ ls) w = (refl, all_boxed s ls w.1)
all_boxed s (GzzLine g CloseGzz ∷ ls) w = (refl, all_boxed s ls w.1)
all_boxed s (StatementLine (ScreenLine a b c) ∷ ls) w =
    let read = line_good s (stated ls) (spelled (ScreenLine a b c)) (StatementLine (ScreenLine a b c)) w.0.0 in
    none_above s ls w.1 read.0.1 _ _
all_boxed s (StatementLine f ∷ ls) w = all_boxed s ls w.1

-- the outer layers that these lines open, and the layers in front of which they put windows, are among the names
abbrev pub AreOthersNamed : List (List ℕ) → List Line → Type 0
AreOthersNamed names [] = Unit {0}
AreOthersNamed names (StatementLine f ∷ ls) = AreOthersNamed names ls
AreOthersNamed names (AreaLine layer pattern points ∷ ls) = AreOthersNamed names ls
AreOthersNamed names (GzzLine g (OpenGzz inner kind place r classes title) ∷ ls) = IsAmong names g × AreOthersNamed names ls
AreOthersNamed names (GzzLine g (InFrontGzz m) ∷ ls) = IsAmong names m × AreOthersNamed names ls
AreOthersNamed names (GzzLine g act ∷ ls) = AreOthersNamed names ls

others_kept : (names more : List (List ℕ)) (ls : List Line) → ((n : List ℕ) → IsAmong names n → IsAmong more n) → AreOthersNamed names ls → AreOthersNamed more ls
others_kept names more [] f h = tt
others_kept names more (StatementLine g ∷ ls) f h = others_kept names more ls f h
others_kept names more (AreaLine layer pattern points ∷ ls) f h = others_kept names more ls f h
others_kept names more (GzzLine g (OpenGzz inner kind place r classes title) ∷ ls) f h = (f g h.0, others_kept names more ls f h.1)
others_kept names more (GzzLine g (InFrontGzz m) ∷ ls) f h = (f m h.0, others_kept names more ls f h.1)
others_kept names more (GzzLine g act ∷ ls) f h = others_kept names more ls f h

pub others_named : (s : Setting) (ls : List Line) → AreLinesWritten s ls → AreOthersNamed (told (stated ls)).names ls
others_named s [] w = tt
others_named s (AreaLine layer pattern points ∷ ls) w = absurd w.0
others_named s (StatementLine f ∷ ls) w = others_kept (told (stated ls)).names _ ls (λ n h. name_kept f (stated ls) n h) (others_named s ls w.1)
others_named s (GzzLine g (OpenGzz inner kind place r classes title) ∷ ls) w =
    let act : GzzAct = OpenGzz inner kind place r classes title in
    let first : List (List ℕ) = and_names (and_names (told (stated ls)).names (g ∷ [])) (inner ∷ []) in
    ((all_named first (inner ∷ g ∷ [])).1.0, others_kept (told (stated ls)).names _ ls (λ n h. names_kept (gzz_lines (told (stated ls)).pairs g act) (stated ls) n h) (others_named s ls w.1))
others_named s (GzzLine g (InFrontGzz m) ∷ ls) w =
    let act : GzzAct = InFrontGzz m in
    let first : List (List ℕ) = and_names (told (stated ls)).names (g ∷ m ∷ []) in
    (any_kept (bytes_eq m) first (inner_of (told (stated ls)).pairs g ∷ g ∷ []) (all_named (told (stated ls)).names (g ∷ m ∷ [])).1.0, others_kept (told (stated ls)).names _ ls (λ n h. names_kept (gzz_lines (told (stated ls)).pairs g act) (stated ls) n h) (others_named s ls w.1))
others_named s (GzzLine g act ∷ ls) w = others_kept (told (stated ls)).names _ ls (λ n h. names_kept (gzz_lines (told (stated ls)).pairs g act) (stated ls) n h) (others_named s ls w.1)

-- no line puts its window in front of the outer layer of one of these
abbrev pub AreNotBetween : List NamedPair → List Line → Type 0
AreNotBetween pairs [] = Unit {0}
AreNotBetween pairs (StatementLine f ∷ ls) = AreNotBetween pairs ls
AreNotBetween pairs (AreaLine layer pattern points ∷ ls) = AreNotBetween pairs ls
AreNotBetween pairs (GzzLine g act ∷ ls) = (comes_between pairs act ≡ false) × AreNotBetween pairs ls

still_not : (names : List (List ℕ)) (pairs : List NamedPair) (q : NamedPair) (ls : List Line) → IsNew names q → AreOthersNamed names ls → AreNotBetween pairs ls → AreNotBetween (pairs ++ q ∷ []) ls
still_not names pairs q [] new h k = tt
still_not names pairs q (StatementLine f ∷ ls) new h k = still_not names pairs q ls new h k
still_not names pairs q (AreaLine layer pattern points ∷ ls) new h k = still_not names pairs q ls new h k
still_not names pairs q (GzzLine g (OpenGzz inner kind place r classes title) ∷ ls) new h k = (refl, still_not names pairs q ls new h.1 k.1)
still_not names pairs q (GzzLine g (InFrontGzz m) ∷ ls) new h k = (outer_more pairs q m (other_name names m q.outer h.0 new.outer) ∙ k.0, still_not names pairs q ls new h.1 k.1)
still_not names pairs q (GzzLine g act ∷ ls) new h k = (refl, still_not names pairs q ls new h k.1)

pub none_between : (s : Setting) (ls : List Line) → AreLinesWritten s ls → AreNotBetween (told (stated ls)).pairs ls
none_between s [] w = tt
none_between s (AreaLine layer pattern points ∷ ls) w = absurd w.0
none_between s (StatementLine (PairMade outer inner) ∷ ls) w = absurd (false≢true (read_has_line s (told (stated ls)) (PairMade outer inner) w.0.0))
none_between s (StatementLine f ∷ ls) w = none_between s ls w.1
none_between s (GzzLine g (OpenGzz inner kind place r classes title) ∷ ls) w =
    let tested = gzz_of s ls g (OpenGzz inner kind place r classes title) w in
    let q : NamedPair = record { outer = g; inner = inner } in
    (refl, still_not (told (stated ls)).names (told (stated ls)).pairs q ls (new_names (told (stated ls)) g inner tested.new) (others_named s ls w.1) (none_between s ls w.1))
none_between s (GzzLine g (BoxGzz r) ∷ ls) w = (refl, none_between s ls w.1)
none_between s (GzzLine g FrontGzz ∷ ls) w = (refl, none_between s ls w.1)
none_between s (GzzLine g BehindGzz ∷ ls) w = (refl, none_between s ls w.1)
none_between s (GzzLine g (InFrontGzz m) ∷ ls) w = ((gzz_of s ls g (InFrontGzz m) w).apart, none_between s ls w.1)
none_between s (GzzLine g CloseGzz ∷ ls) w = (refl, none_between s ls w.1)

-- A line parts none of these windows, and what it does with one it may do on a screen of this size.
abbrev pub IsLineApart : ℕ → ℕ → List NamedPair → Line → Type 0
IsLineApart width height pairs (StatementLine f) = parts_pair pairs f ≡ false
IsLineApart width height pairs (AreaLine layer pattern points) = Unit {0}
IsLineApart width height pairs (GzzLine g act) = (is_gzz_in_range width height act ≡ true) × (comes_between pairs act ≡ false)

-- P holds of each of these lines
abbrev pub AreEach : (Line → Type 0) → List Line → Type 0
AreEach P [] = Unit {0}
AreEach P (l ∷ ls) = P l × AreEach P ls

each_apart : (width height : ℕ) (pairs : List NamedPair) (ls : List Line) → AreFree pairs ls → AreBoxed width height ls → AreNotBetween pairs ls → AreEach (IsLineApart width height pairs) ls
each_apart width height pairs [] a b c = tt
each_apart width height pairs (StatementLine f ∷ ls) a b c = (a.0, each_apart width height pairs ls a.1 b c)
each_apart width height pairs (AreaLine layer pattern points ∷ ls) a b c = (tt, each_apart width height pairs ls a b c)
each_apart width height pairs (GzzLine g act ∷ ls) a b c = ((b.0, c.0), each_apart width height pairs ls a b.1 c.1)

-- So it is of each line of a script.
pub lines_apart : (s : Setting) (ls : List Line) → AreLinesWritten s ls → AreEach (IsLineApart (told (stated ls)).width (told (stated ls)).height (told (stated ls)).pairs) ls
lines_apart s ls w = each_apart _ _ _ ls (all_free s ls w) (all_boxed s ls w) (none_between s ls w)

-- What holds of each line holds of each part of them, and of each line in another order.
module _ (P : Line → Type 0) where
  pub each_left : (xs ys : List Line) → AreEach P (xs ++ ys) → AreEach P xs
  each_left [] ys h = tt
  each_left (x ∷ xs) ys h = (h.0, each_left xs ys h.1)

  pub each_right : (xs ys : List Line) → AreEach P (xs ++ ys) → AreEach P ys
  each_right [] ys h = h
  each_right (x ∷ xs) ys h = each_right xs ys h.1

  each_pushed : (xs : List Line) (y : Line) → AreEach P xs → P y → AreEach P (xs ++ y ∷ [])
  each_pushed [] y h k = (k, tt)
  each_pushed (x ∷ xs) y h k = (h.0, each_pushed xs y h.1 k)

  pub each_reversed : (xs : List Line) → AreEach P xs → AreEach P (reverse xs)
  each_reversed [] h = tt
  each_reversed (x ∷ xs) h = subst (AreEach P) (sym (reverse_onto xs x [])) (each_pushed (reverse xs) x (each_reversed xs h.1) h.0)

  pub each_filtered : (test : Line → Bool) (xs : List Line) → AreEach P xs → AreEach P (filter test xs)
  each_filtered test [] h = tt
  each_filtered test (x ∷ xs) h = go (test x) (each_filtered test xs h.1)
    where
      go : (b : Bool) → AreEach P (filter test xs) → AreEach P (cond b (x ∷ filter test xs) (filter test xs))
      go true k = (h.0, k)
      go false k = k

  -- of those that are gathered by number
  pub each_numbered : (f : ℕ → List Line) (n i : ℕ) → AreEach P (flat_map f (range_with_len 0 n)) → i < n → AreEach P (f i)
  each_numbered f zero i h low = absurd (omega (arith, low))
  each_numbered f (suc n) zero h low = each_left (f 0) (flat_map f (range_with_len 1 n)) h
  each_numbered f (suc n) (suc i) h low = each_numbered (λ j. f (suc j)) n i (subst (AreEach P) (gathered_next f 0 n) (each_right (f 0) (flat_map f (range_with_len 1 n)) h)) (omega (arith, low))
