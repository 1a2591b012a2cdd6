-- No name is one of two windows of two layers of a script, so that no slot is one of two pairs of its plan.
use Rattle.std.proofs.Common.{◌≡◌, ℕ, zero, suc, ◌==◌, false, ◌||◌, List, [], ◌∷◌, ◌++◌, map, slice_index_or, bytes_eq, All, AllPairs, refl, sym, ap, ◌∙◌, arith, inl, inr}
use Rattle.lw_gzz.specs.Together.{AreDisjoint}
use Rattle.lw_grammar.specs.Statements.{PairMade, GzzAct, OpenGzz, BoxGzz, FrontGzz, BehindGzz, InFrontGzz, CloseGzz, Line, StatementLine, AreaLine, GzzLine}
use Rattle.lw_grammar.specs.Told.{NamedPair, place_among, told, pair_among}
use Rattle.lw_grammar.specs.Script.{Setting, stands_above}
use Rattle.lw_grammar.proofs.ScriptNames.{same_name}
use Rattle.lw_grammar.proofs.ScriptOutcome.{line_good}
use Rattle.lw_grammar.proofs.GzzLines.{gzz_passed}
use Rattle.lw_canonical.specs.Spelling.{written}
use Rattle.lw_canonical.proofs.ByNumber.{found_itself}
use Rattle.lw_canonical.proofs.Rearranged.{stated, AreLinesWritten}
use Rattle.lw_canonical.proofs.TaskLineAlone.{read_has_line}
use Rattle.lw_canonical.proofs.FreeLines.{IsAmong, IsNew, other_name, new_names}
use Rattle.lw_canonical.proofs.PairsFound.{IsOneOf, ArePairsNamed, pairs_named}
use Rattle.std.proofs.lemmas.Bool.{true≢false, false≢true, ne_eqb, or_parts, or_from}

-- names that differ have places that differ
other_place : (names : List (List ℕ)) (m n : List ℕ) → IsAmong names m → IsAmong names n → bytes_eq m n ≡ false → place_among names m ≡ place_among names n → ⊥
other_place names m n h k e same =
    let is : m ≡ n = sym (found_itself names m h) ∙ ap (λ i. slice_index_or names i []) same ∙ found_itself names n k in
    true≢false (sym (same_name n) ∙ ap (λ l. bytes_eq l n) (sym is) ∙ e)

-- no name of the first window is one of the second
pub record AreNamesApart (q r : NamedPair) : Type 0 where
  pub outers : bytes_eq q.outer r.outer ≡ false
  pub outer_inner : bytes_eq q.outer r.inner ≡ false
  pub inner_outer : bytes_eq q.inner r.outer ≡ false
  pub inners : bytes_eq q.inner r.inner ≡ false

abbrev pub IsApartFrom : NamedPair → List NamedPair → Type 0
IsApartFrom q [] = Unit {0}
IsApartFrom q (r ∷ rs) = AreNamesApart q r × IsApartFrom q rs

-- the names of each window differ, and none of them is one of a later window
abbrev pub AreAllApart : List NamedPair → Type 0
AreAllApart [] = Unit {0}
AreAllApart (q ∷ qs) = (bytes_eq q.outer q.inner ≡ false) × IsApartFrom q qs × AreAllApart qs

apart_from_more : (q r : NamedPair) (qs : List NamedPair) → IsApartFrom q qs → AreNamesApart q r → IsApartFrom q (qs ++ r ∷ [])
apart_from_more q r [] h k = (k, tt)
apart_from_more q r (t ∷ ts) h k = (h.0, apart_from_more q r ts h.1 k)

apart_more : (qs : List NamedPair) (r : NamedPair) → AreAllApart qs → ((q : NamedPair) → IsOneOf q qs → AreNamesApart q r) → bytes_eq r.outer r.inner ≡ false → AreAllApart (qs ++ r ∷ [])
apart_more [] r h k e = (e, tt, tt)
apart_more (q ∷ qs) r h k e = (h.0, apart_from_more q r qs h.1 (k q (inl refl)), apart_more qs r h.2 (λ t one. k t (inr one)) e)

-- a new window is apart from each whose names are among the names
apart_from_new : (names : List (List ℕ)) (pairs : List NamedPair) (r : NamedPair) → ArePairsNamed names pairs → IsNew names r → (q : NamedPair) → IsOneOf q pairs → AreNamesApart q r
apart_from_new names pairs r named new q one =
    let both = named q one in
    record {
      outers = other_name names q.outer r.outer both.0 new.outer;
      outer_inner = other_name names q.outer r.inner both.0 new.inner;
      inner_outer = other_name names q.inner r.outer both.1 new.outer;
      inners = other_name names q.inner r.inner both.1 new.inner;
    }

-- So it is of the windows of lines that are written.
pub all_apart : (s : Setting) (ls : List Line) → AreLinesWritten s ls → AreAllApart (told (stated ls)).pairs
all_apart s [] w = tt
all_apart s (AreaLine layer pattern points ∷ ls) w = absurd w.0
all_apart s (StatementLine (PairMade outer inner) ∷ ls) w = absurd (false≢true (read_has_line s (told (stated ls)) (PairMade outer inner) w.0.0))
all_apart s (StatementLine f ∷ ls) w = all_apart s ls w.1
all_apart s (GzzLine g (OpenGzz inner kind place r classes title) ∷ ls) w =
    let act : GzzAct = OpenGzz inner kind place r classes title in
    let q : NamedPair = record { outer = g; inner = inner } in
    let tested = gzz_passed (told (stated ls)) g act (line_good s (stated ls) (written (GzzLine g act)) (GzzLine g act) w.0).1 in
    let new = new_names (told (stated ls)) g inner tested.new in
    let own = or_parts (stands_above (told (stated ls)) g || stands_above (told (stated ls)) inner) _ tested.new in
    apart_more (told (stated ls)).pairs q (all_apart s ls w.1) (apart_from_new (told (stated ls)).names (told (stated ls)).pairs q (pairs_named s ls w.1) new) own.1
all_apart s (GzzLine g (BoxGzz r) ∷ ls) w = all_apart s ls w.1
all_apart s (GzzLine g FrontGzz ∷ ls) w = all_apart s ls w.1
all_apart s (GzzLine g BehindGzz ∷ ls) w = all_apart s ls w.1
all_apart s (GzzLine g (InFrontGzz m) ∷ ls) w = all_apart s ls w.1
all_apart s (GzzLine g CloseGzz ∷ ls) w = all_apart s ls w.1

-- The slots of windows whose names are all found.
module _ (names : List (List ℕ)) where
  pub own_slots : (qs : List NamedPair) → ArePairsNamed names qs → AreAllApart qs → All (λ p. (p.inner == p.outer) ≡ false) (map (pair_among names) qs)
  own_slots [] h k n d low = absurd (omega (arith, low))
  own_slots (q ∷ qs) h k zero d low =
      let both = h q (inl refl) in ne_eqb _ _ (λ same. other_place names q.outer q.inner both.0 both.1 k.0 (sym same))
  own_slots (q ∷ qs) h k (suc n) d low = own_slots qs (λ r one. h r (inr one)) k.2 n d (omega (arith, low))

  disjoint_slots : (q r : NamedPair) → IsAmong names q.outer × IsAmong names q.inner → IsAmong names r.outer × IsAmong names r.inner → AreNamesApart q r → AreDisjoint (pair_among names q) (pair_among names r)
  disjoint_slots q r a b h = (
    or_from _ _ (ne_eqb _ _ (other_place names q.outer r.outer a.0 b.0 h.outers)) (ne_eqb _ _ (other_place names q.outer r.inner a.0 b.1 h.outer_inner)),
    or_from _ _ (ne_eqb _ _ (other_place names q.inner r.outer a.1 b.0 h.inner_outer)) (ne_eqb _ _ (other_place names q.inner r.inner a.1 b.1 h.inners)),
  )

  disjoint_from : (q : NamedPair) (rs : List NamedPair) → IsAmong names q.outer × IsAmong names q.inner → ArePairsNamed names rs → IsApartFrom q rs → All (AreDisjoint (pair_among names q)) (map (pair_among names) rs)
  disjoint_from q [] a h k n d low = absurd (omega (arith, low))
  disjoint_from q (r ∷ rs) a h k zero d low = disjoint_slots q r a (h r (inl refl)) k.0
  disjoint_from q (r ∷ rs) a h k (suc n) d low = disjoint_from q rs a (λ t one. h t (inr one)) k.1 n d (omega (arith, low))

  pub all_disjoint : (qs : List NamedPair) → ArePairsNamed names qs → AreAllApart qs → AllPairs AreDisjoint (map (pair_among names) qs)
  all_disjoint [] h k i j d less low = absurd (omega (arith, low))
  all_disjoint (q ∷ qs) h k i zero d less low = absurd (omega (arith, less))
  all_disjoint (q ∷ qs) h k zero (suc j) d less low = disjoint_from q qs (h q (inl refl)) (λ r one. h r (inr one)) k.1 j d (omega (arith, low))
  all_disjoint (q ∷ qs) h k (suc i) (suc j) d less low = all_disjoint qs (λ r one. h r (inr one)) k.2 i j d (omega (arith, less)) (omega (arith, low))
