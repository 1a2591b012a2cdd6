-- The desktop after an arrangement: what stays of it, and what is put together anew.
use Rattle.std.proofs.Common.{◌≡◌, ℕ, zero, suc, ◌+◌, ◌<◌, ◌==◌, Bool, true, false, not, ◌&&◌, ◌||◌, List, [], ◌∷◌, ◌++◌, map, take, length, get_or, ℤ, Option, Some, None, refl, sym, ap, subst, ◌∙◌, ◌⊎◌, ◌≢◌, cond, inl, inr, arith}
use Rattle.std.specs.Prelude.{if◌then◌else◌}
use Rattle.std.specs.List.{All, find}
use Rattle.std.specs.Option.{is_some}
use Rattle.std.proofs.lemmas.Bool.{false≢true, and_parts, and_right, eqb-true, eq-eqb, ne_eqb, cases_eq}
use Rattle.std.proofs.Math.Bool.{and_comm, or-false}
use Rattle.std.proofs.lemmas.List.{map-append, take_more}
use Rattle.std.proofs.lemmas.List.Elements.{All-nil, All-append, All-map, All-push}
use Rattle.lw_region.specs.Rectangle.{Rectangle, has_pixel}
use Rattle.lw_region.specs.Bands.{covers}
use Rattle.lw_region.specs.Banded.{IsCanonical}
use Rattle.lw_region.proofs.Canonical.{covers_nil, covers_cons, covers_append}
use Rattle.lw_region.proofs.Disjoint.{has_at, canonical_disjoint}
use Rattle.lw_region.proofs.SetOps.{covers_one}
use Rattle.lw_planes.specs.Bitmap.{Bitmap}
use Rattle.lw_calls.specs.declared.sizes.Sizes.{Sizes}
use Rattle.lw_machine.specs.Desk.{is_the}
use Rattle.lw_strips.specs.Strips.{StripView, strip_of, blank_planes, rects_of}
use Rattle.lw_strips.specs.Laying.{screen, LiesIn, AreDisjoint}
use Rattle.lw_stack.specs.Stack.{Stack, IsStack, bounds_at, first_at, top_in, is_top_in, LieApart}
use Rattle.lw_stack.specs.Desktop.{is_bare, IsDesktop}
use Rattle.lw_arrange.specs.Desktops.{IsSorted, IsRestOf}
use Rattle.lw_cliprects.specs.Parts.{LieIn}
use Rattle.lw_machine.specs.Screen.{bounds_have, screen_bounds}
use Rattle.lw_machine.specs.Reveal.{has_bounds}
use Rattle.lw_calls.specs.Orders.{occurrences}
use Rattle.lw_arrange.proofs.PieceLaws.{first_is_top}

or_true : (t : Bool) → (t || true) ≡ true
or_true true = refl
or_true false = refl

-- strips in a row are disjoint where each is from all behind it
rects_and : (h a b : Bool) → (h && a) ≡ false → (h && b) ≡ false → (h && (a || b)) ≡ false
rects_and false a b one other = refl
rects_and true true b one other = one
rects_and true false b one other = other

only_if : (h c e : Bool) → (h && c) ≡ false → (e ≡ true → c ≡ true) → (h && e) ≡ false
only_if false c e none then_ = refl
only_if true c false none then_ = refl
only_if true c true none then_ = absurd (false≢true (sym none ∙ then_ refl))

entry_covered : (strips : List StripView) (k : ℕ) (d : StripView) (x y : ℤ) → k < length strips → has_pixel (get_or strips k d).rect x y ≡ true
    → covers (rects_of strips) x y ≡ true
entry_covered [] k d x y inside has = absurd (omega arith)
entry_covered (s ∷ rest) zero d x y inside has =
    covers_cons s.rect (rects_of rest) x y ∙ ap (λ t. t || covers (rects_of rest) x y) has
entry_covered (s ∷ rest) (suc k) d x y inside has =
    covers_cons s.rect (rects_of rest) x y
    ∙ (ap (λ t. has_pixel s.rect x y || t) (entry_covered rest k d x y (omega arith) has) ∙ or_true (has_pixel s.rect x y))

cons_disjoint : (s : StripView) (rest : List StripView) → AreDisjoint rest
    → ((x y : ℤ) → (has_pixel s.rect x y && covers (rects_of rest) x y) ≡ false) → AreDisjoint (s ∷ rest)
cons_disjoint s rest others apart zero zero d before inside = absurd (omega arith)
cons_disjoint s rest others apart zero (suc j) d before inside = λ x y.
    only_if (has_pixel s.rect x y) (covers (rects_of rest) x y) (has_pixel (get_or rest j d).rect x y) (apart x y)
    (entry_covered rest j d x y (omega arith))
cons_disjoint s rest others apart (suc i) zero d before inside = absurd (omega arith)
cons_disjoint s rest others apart (suc i) (suc j) d before inside = others i j d (omega arith) (omega arith)

rest_disjoint : (s : StripView) (rest : List StripView) → AreDisjoint (s ∷ rest) → AreDisjoint rest
rest_disjoint s rest all i j d before inside = all (suc i) (suc j) d (omega arith) (omega arith)

-- the first strip is disjoint from all others
from_first : (r : Rectangle) (rest : List StripView) → ((j : ℕ) (d : StripView) → j < length rest → (x y : ℤ) → (has_pixel r x y && has_pixel (get_or rest j d).rect x y) ≡ false)
    → (x y : ℤ) → (has_pixel r x y && covers (rects_of rest) x y) ≡ false
from_first r [] each x y = ap (λ t. has_pixel r x y && t) (covers_nil x y) ∙ and_right (has_pixel r x y) false refl
from_first r (t ∷ rest) each x y =
    ap (λ b. has_pixel r x y && b) (covers_cons t.rect (rects_of rest) x y)
    ∙ rects_and (has_pixel r x y) (has_pixel t.rect x y) (covers (rects_of rest) x y) (each 0 t (omega arith) x y)
    (from_first r rest (λ j d inside. each (suc j) d (omega arith)) x y)

head_disjoint : (s : StripView) (rest : List StripView) → AreDisjoint (s ∷ rest)
    → (x y : ℤ) → (has_pixel s.rect x y && covers (rects_of rest) x y) ≡ false
head_disjoint s rest all = from_first s.rect rest (λ j d inside. all 0 (suc j) d (omega arith) (omega arith))

covers_both : (a b : List StripView) (x y : ℤ) → covers (rects_of (a ++ b)) x y ≡ (covers (rects_of a) x y || covers (rects_of b) x y)
covers_both a b x y = ap (λ rs. covers rs x y) (map-append (λ s. s.rect) a b) ∙ covers_append (rects_of a) (rects_of b) x y

or_apart : (a p r : Bool) → ((a || p) && r) ≡ false → ((a && r) ≡ false) × ((p && r) ≡ false)
or_apart true true r none = (none, none)
or_apart true false r none = (none, refl)
or_apart false p r none = (refl, none)

joined_disjoint : (a b : List StripView) → AreDisjoint a → AreDisjoint b
    → ((x y : ℤ) → (covers (rects_of a) x y && covers (rects_of b) x y) ≡ false) → AreDisjoint (a ++ b)
joined_disjoint [] b one other apart = other
joined_disjoint (s ∷ a) b one other apart =
    cons_disjoint s (a ++ b)
    (joined_disjoint a b (rest_disjoint s a one) other (λ x y. (parts x y).1))
    (λ x y. ap (λ t. has_pixel s.rect x y && t) (covers_both a b x y)
    ∙ rects_and (has_pixel s.rect x y) (covers (rects_of a) x y) (covers (rects_of b) x y) (head_disjoint s a one x y) (parts x y).0)
  where
    parts : (x y : ℤ) → ((has_pixel s.rect x y && covers (rects_of b) x y) ≡ false) × ((covers (rects_of a) x y && covers (rects_of b) x y) ≡ false)
    parts x y = or_apart (has_pixel s.rect x y) (covers (rects_of a) x y) (covers (rects_of b) x y)
        (sym (ap (λ t. t && covers (rects_of b) x y) (covers_cons s.rect (rects_of a) x y)) ∙ apart x y)

either_apart : (a p r : Bool) → (a && r) ≡ false → (p && r) ≡ false → ((a || p) && r) ≡ false
either_apart true p r one other = one
either_apart false p r one other = other

-- a strip is disjoint from those in front of it
pub in_front_apart : (strips : List StripView) → AreDisjoint strips → (k : ℕ) (d : StripView) → k < length strips → (x y : ℤ)
    → (covers (rects_of (take k strips)) x y && has_pixel (get_or strips k d).rect x y) ≡ false
in_front_apart [] all k d inside x y = absurd (omega arith)
in_front_apart (s ∷ rest) all zero d inside x y = ap (λ t. t && has_pixel s.rect x y) (covers_nil x y)
in_front_apart (s ∷ rest) all (suc k) d inside x y =
    ap (λ t. t && has_pixel (get_or rest k d).rect x y) (covers_cons s.rect (rects_of (take k rest)) x y)
    ∙ either_apart (has_pixel s.rect x y) (covers (rects_of (take k rest)) x y) (has_pixel (get_or rest k d).rect x y)
    (all 0 (suc k) d (omega arith) inside x y) (in_front_apart rest (rest_disjoint s rest all) k d (omega arith) x y)

-- strips of pen 0 of the rectangles of a canonical list
pub blank_rects : (depth : ℕ) (rects : List Rectangle) → rects_of (map (λ r. strip_of r depth None) rects) ≡ rects
blank_rects depth [] = refl
blank_rects depth (r ∷ rs) = ap (λ l. r ∷ l) (blank_rects depth rs)

blank_entry : (depth : ℕ) (rects : List Rectangle) (k : ℕ) (d : StripView) → (get_or (map (λ r. strip_of r depth None) rects) k d).rect ≡ get_or rects k d.rect
blank_entry depth [] k d = refl
blank_entry depth (r ∷ rs) zero d = refl
blank_entry depth (r ∷ rs) (suc k) d = blank_entry depth rs k d

blank_many : (depth : ℕ) (rects : List Rectangle) → length (map (λ r. strip_of r depth None) rects) ≡ length rects
blank_many depth [] = refl
blank_many depth (r ∷ rs) = ap suc (blank_many depth rs)

blank_disjoint : (depth : ℕ) (rects : List Rectangle) → IsCanonical rects → AreDisjoint (map (λ r. strip_of r depth None) rects)
blank_disjoint depth rects canonical i j d before inside x y =
    ap (λ (r : Rectangle). has_pixel r x y && has_pixel (get_or (map (λ q. strip_of q depth None) rects) j d).rect x y) (blank_entry depth rects i d)
    ∙ (ap (λ (r : Rectangle). has_pixel (get_or rects i d.rect) x y && has_pixel r x y) (blank_entry depth rects j d)
    ∙ canonical_disjoint rects canonical i j d.rect before (omega (arith, inside, blank_many depth rects)) x y)

-- The strips so far were parted: those that stay, which lie apart from the area, and the places of the others.
pub record IsParted (area : List Rectangle) (depth : ℕ) (strips kept : List StripView) (near : List Rectangle) : Type 0 where
  pub disjoint : AreDisjoint kept
  pub pens : All (λ s. s.planes ≡ blank_planes s.rect depth) kept
  pub apart : (x y : ℤ) → (covers (rects_of kept) x y && covers area x y) ≡ false
  pub alone : (x y : ℤ) → (covers (rects_of kept) x y && covers near x y) ≡ false
  pub places : (x y : ℤ) → (covers (rects_of kept) x y || covers near x y) ≡ covers (rects_of strips) x y

pub none_parted : (area : List Rectangle) (depth : ℕ) (kept : List StripView) (near : List Rectangle) → kept ≡ [] → near ≡ []
    → IsParted area depth [] kept near
none_parted area depth kept near none empty =
    let P : List StripView → Type 0 = λ ss. IsParted area depth [] ss near in
    subst P (sym none) (record {
      disjoint = λ i j d before inside. absurd (omega arith);
      pens = All-nil (λ (s : StripView). s.planes ≡ blank_planes s.rect depth);
      apart = λ x y. ap (λ t. t && covers area x y) (covers_nil x y);
      alone = λ x y. ap (λ t. t && covers near x y) (covers_nil x y);
      places = λ x y. ap (λ t. t || covers near x y) (covers_nil x y) ∙ ap (λ l. covers l x y) empty;
    })

-- on truth values: what is kept or near, of strips so far and one more
of_both : (k n o h : Bool) → (k || n) ≡ o → (o && h) ≡ false → ((k && h) ≡ false) × ((n && h) ≡ false)
of_both k n o h is none = or_apart k n h (ap (λ t. t && h) is ∙ none)

other_way : (a b : Bool) → (a && b) ≡ false → (b && a) ≡ false
other_way a b none = and_comm b a ∙ none

kept_more : (k n o h : Bool) → (k || n) ≡ o → ((k || h) || n) ≡ (o || h)
kept_more true n o h is = ap (λ t. t || h) is
kept_more false true o h is = or_true h ∙ ap (λ t. t || h) is
kept_more false false o true is = sym (or_true o)
kept_more false false o false is = is ∙ sym (or-false o)

near_more : (k n o h : Bool) → (k || n) ≡ o → (k || (n || h)) ≡ (o || h)
near_more true n o h is = ap (λ t. t || h) is
near_more false n o h is = ap (λ t. t || h) is

-- one strip more
pub parted_more : (area : List Rectangle) (depth : ℕ) (strips : List StripView) (i : ℕ) (s : StripView) (kept new_kept : List StripView)
    (near new_near : List Rectangle) → AreDisjoint strips → All (λ t. t.planes ≡ blank_planes t.rect depth) strips → i < length strips
    → s ≡ get_or strips i s → IsParted area depth (take i strips) kept near → IsSorted area s kept near new_kept new_near
    → IsParted area depth (take (i + 1) strips) new_kept new_near
parted_more area depth strips i s kept new_kept near new_near disjoint pens inside is h sorted = go sorted
  where
    free : (x y : ℤ) → (covers (rects_of (take i strips)) x y && has_pixel s.rect x y) ≡ false
    free x y = ap (λ (t : StripView). covers (rects_of (take i strips)) x y && has_pixel t.rect x y) is ∙ in_front_apart strips disjoint i s inside x y

    more : (x y : ℤ) → covers (rects_of (take (i + 1) strips)) x y ≡ (covers (rects_of (take i strips)) x y || has_pixel s.rect x y)
    more x y =
        ap (λ l. covers (rects_of l) x y) (take_more strips i s inside)
        ∙ (covers_both (take i strips) (get_or strips i s ∷ []) x y
        ∙ (ap (λ t. covers (rects_of (take i strips)) x y || t) (covers_one (get_or strips i s).rect x y)
        ∙ ap (λ (t : StripView). covers (rects_of (take i strips)) x y || has_pixel t.rect x y) (sym is)))

    one : StripView
    one = strip_of s.rect s.planes.depth None

    deep : s.planes.depth ≡ depth
    deep = ap (λ (b : Bitmap). b.depth)
        (subst (λ (t : StripView). t.planes ≡ blank_planes t.rect depth) (sym is) (pens i s inside))

    both : (x y : ℤ) → ((covers (rects_of kept) x y && has_pixel s.rect x y) ≡ false) × ((covers near x y && has_pixel s.rect x y) ≡ false)
    both x y = of_both (covers (rects_of kept) x y) (covers near x y) (covers (rects_of (take i strips)) x y) (has_pixel s.rect x y) (h.places x y) (free x y)

    with_one : (x y : ℤ) → covers (rects_of (kept ++ one ∷ [])) x y ≡ (covers (rects_of kept) x y || has_pixel s.rect x y)
    with_one x y = covers_both kept (one ∷ []) x y ∙ ap (λ t. covers (rects_of kept) x y || t) (covers_one s.rect x y)

    stays : LieApart area s.rect → IsParted area depth (take (i + 1) strips) (kept ++ one ∷ []) near
    stays off = record {
      disjoint = joined_disjoint kept (one ∷ []) h.disjoint (λ m n d before below. absurd (omega arith))
          (λ x y. ap (λ t. covers (rects_of kept) x y && t) (covers_one s.rect x y) ∙ (both x y).0);
      pens = All-push (λ (t : StripView). t.planes ≡ blank_planes t.rect depth) kept one h.pens (ap (blank_planes s.rect) deep);
      apart = λ x y. ap (λ t. t && covers area x y) (with_one x y)
          ∙ either_apart (covers (rects_of kept) x y) (has_pixel s.rect x y) (covers area x y) (h.apart x y)
          (other_way (covers area x y) (has_pixel s.rect x y) (off x y));
      alone = λ x y. ap (λ t. t && covers near x y) (with_one x y)
          ∙ either_apart (covers (rects_of kept) x y) (has_pixel s.rect x y) (covers near x y) (h.alone x y)
          (other_way (covers near x y) (has_pixel s.rect x y) (both x y).1);
      places = λ x y. ap (λ t. t || covers near x y) (with_one x y)
          ∙ (kept_more (covers (rects_of kept) x y) (covers near x y) (covers (rects_of (take i strips)) x y) (has_pixel s.rect x y) (h.places x y)
          ∙ sym (more x y));
    }

    goes : ((x y : ℤ) → covers new_near x y ≡ (covers near x y || has_pixel s.rect x y)) → IsParted area depth (take (i + 1) strips) kept new_near
    goes added = record {
      disjoint = h.disjoint;
      pens = h.pens;
      apart = h.apart;
      alone = λ x y. ap (λ t. covers (rects_of kept) x y && t) (added x y)
          ∙ rects_and (covers (rects_of kept) x y) (covers near x y) (has_pixel s.rect x y) (h.alone x y) (both x y).0;
      places = λ x y. ap (λ t. covers (rects_of kept) x y || t) (added x y)
          ∙ (near_more (covers (rects_of kept) x y) (covers near x y) (covers (rects_of (take i strips)) x y) (has_pixel s.rect x y) (h.places x y)
          ∙ sym (more x y));
    }

    go : IsSorted area s kept near new_kept new_near → IsParted area depth (take (i + 1) strips) new_kept new_near
    go (inl kept_so) =
        let P : List StripView → Type 0 = λ l. IsParted area depth (take (i + 1) strips) l new_near in
        let Q : List Rectangle → Type 0 = λ l. IsParted area depth (take (i + 1) strips) (kept ++ one ∷ []) l in
        subst P (sym kept_so.1) (subst Q (sym kept_so.2) (stays kept_so.0))
    go (inr near_so) =
        let P : List StripView → Type 0 = λ l. IsParted area depth (take (i + 1) strips) l new_near in
        subst P (sym near_so.0) (goes near_so.1)

-- The desktop of the one list was parted by the area, and of what is near it and of what the other list leaves of it one list was
-- made.
pub record IsRemade (v w : Stack) (area : List Rectangle) (strips kept : List StripView) (near cleared joined rest : List Rectangle) : Type 0 where
  pub before : IsDesktop v strips
  pub parted : IsParted area v.sizes.depth strips kept near
  pub clear : (x y : ℤ) → covers cleared x y ≡ (covers near x y && not (covers area x y))
  pub join : (x y : ℤ) → covers joined x y ≡ (covers cleared x y || covers rest x y)
  pub left : IsRestOf w area rest
  pub inside : LieIn (screen_bounds v.sizes) area
  pub same : w.sizes ≡ v.sizes
  pub bare : (x y : ℤ) → covers area x y ≡ false → is_bare v x y ≡ is_bare w x y

-- a place of the screen without a top is one without a layer
bare_by_top : (v : Stack) (x y : ℤ) → is_bare v x y ≡ (has_pixel (screen_bounds v.sizes) x y && not (is_some (top_in v x y)))
bare_by_top v x y = first_is_top v x y (has_pixel (screen_bounds v.sizes) x y) (λ o. not (is_some o)) (λ on. on)

-- what is on top for each slot is one layer or none
pub one_first : (o p : Option ℕ) → ((s : ℕ) → is_the o s ≡ is_the p s) → o ≡ p
one_first None None each = refl
one_first None (Some n) each = absurd (false≢true (each n ∙ eq-eqb n n refl))
one_first (Some m) None each = absurd (false≢true (sym (each m) ∙ eq-eqb m m refl))
one_first (Some m) (Some n) each = ap Some (sym (eqb-true n m (sym (each m) ∙ eq-eqb m m refl)))

-- where each layer is on top in both lists or in none, both have no layer
pub bare_elsewhere : (v w : Stack) (x y : ℤ) → w.sizes ≡ v.sizes → ((s : ℕ) → is_top_in v s x y ≡ is_top_in w s x y)
    → is_bare v x y ≡ is_bare w x y
bare_elsewhere v w x y same each =
    bare_by_top v x y
    ∙ (ap (λ o. has_pixel (screen_bounds v.sizes) x y && not (is_some o)) (one_first (top_in v x y) (top_in w x y) each)
    ∙ (ap (λ z. has_pixel (screen_bounds z) x y && not (is_some (top_in w x y))) (sym same) ∙ sym (bare_by_top w x y)))

-- a slot of a list that passes a test is found, and what is found is one
found_of : (p : ℕ → Bool) (us : List ℕ) (s : ℕ) → 0 < occurrences s us → p s ≡ true → is_some (find p us) ≡ true
found_of p [] s there passes = absurd (omega arith)
found_of p (u ∷ us) s there passes = by_test (p u) refl (cases_eq u s) (λ below. found_of p us s below passes)
  where
    by_test : (b : Bool) → p u ≡ b → (u ≡ s ⊎ u ≢ s) → (0 < occurrences s us → is_some (find p us) ≡ true)
        → is_some (cond b (Some u) (find p us)) ≡ true
    by_test true is which rest = refl
    by_test false is (inl same) rest = absurd (false≢true (sym is ∙ (ap p same ∙ passes)))
    by_test false is (inr other) rest = rest (omega (arith, subst (λ b. 0 < (if b then 1 else 0) + occurrences s us) (ne_eqb u s other) there))

found_in : (p : ℕ → Bool) (us : List ℕ) → is_some (find p us) ≡ true → (s : ℕ) × (0 < occurrences s us) × (p s ≡ true)
found_in p [] found = absurd (false≢true found)
found_in p (u ∷ us) found = by_test (p u) refl found (λ rest. found_in p us rest)
  where
    more : (b : Bool) (n : ℕ) → 0 < n → 0 < (if b then 1 else 0) + n
    more b n below = omega arith

    by_test : (b : Bool) → p u ≡ b → is_some (cond b (Some u) (find p us)) ≡ true
        → (is_some (find p us) ≡ true → (s : ℕ) × (0 < occurrences s us) × (p s ≡ true))
        → (s : ℕ) × (0 < occurrences s (u ∷ us)) × (p s ≡ true)
    by_test true is now rest = (u, subst (λ b. 0 < (if b then 1 else 0) + occurrences u us) (sym (eq-eqb u u refl)) (omega arith), is)
    by_test false is now rest = let one = rest now in (one.0, more (u == one.0) (occurrences one.0 us) one.1, one.2)

both_ways : (a b : Bool) → (a ≡ true → b ≡ true) → (b ≡ true → a ≡ true) → a ≡ b
both_ways true b one other = sym (one refl)
both_ways false true one other = other refl
both_ways false false one other = refl

-- where all bounds stay, so does what no layer has, whatever the order of the layers is
pub bare_stays : (v w : Stack) (x y : ℤ) → IsStack v → IsStack w → w.sizes ≡ v.sizes → v.bounds ≡ w.bounds
    → is_bare v x y ≡ is_bare w x y
unfolding first_at
bare_stays v w x y from to same bounds =
    ap (λ (z : Sizes). has_pixel (screen z.width z.height) x y && not (is_some (first_at v.bounds v.front_to_back x y))) (sym same)
    ∙ ap (λ b. has_pixel (screen w.sizes.width w.sizes.height) x y && not b) some_same
  where
    listed : (s : ℕ) → occurrences s v.front_to_back ≡ occurrences s w.front_to_back
    listed s =
        from.listed s
        ∙ (ap (λ (l : List (Option Rectangle)). if has_bounds (bounds_at l s) then 1 else 0) bounds ∙ sym (to.listed s))

    test : ℕ → Bool
    test s = bounds_have (bounds_at v.bounds s) x y

    goes : is_some (find test v.front_to_back) ≡ true → is_some (find test w.front_to_back) ≡ true
    goes found =
        let one = found_in test v.front_to_back found in
        found_of test w.front_to_back one.0 (subst (λ n. 0 < n) (listed one.0) one.1) one.2

    comes : is_some (find test w.front_to_back) ≡ true → is_some (find test v.front_to_back) ≡ true
    comes found =
        let one = found_in test w.front_to_back found in
        found_of test v.front_to_back one.0 (subst (λ n. 0 < n) (sym (listed one.0)) one.1) one.2

    some_same : is_some (first_at v.bounds v.front_to_back x y) ≡ is_some (first_at w.bounds w.front_to_back x y)
    some_same =
        both_ways (is_some (find test v.front_to_back)) (is_some (find test w.front_to_back)) goes comes
        ∙ ap (λ (l : List (Option Rectangle)). is_some (first_at l w.front_to_back x y)) bounds

kept_off : (k n a m : Bool) → (k && n) ≡ false → (k && a) ≡ false → (k && ((n && not a) || (a && m))) ≡ false
kept_off false n a m one other = refl
kept_off true true a m one other = absurd (false≢true (sym one))
kept_off true false true m one other = absurd (false≢true (sym other))
kept_off true false false m one other = refl

remade_place : (k n a m o b : Bool) → (k || n) ≡ o → (k && a) ≡ false → (a ≡ true → m ≡ b) → (a ≡ false → o ≡ b)
    → (k || ((n && not a) || (a && m))) ≡ b
remade_place true n true m o b is off now then_ = absurd (false≢true (sym off))
remade_place true n false m o b is off now then_ = is ∙ then_ refl
remade_place false true true m o b is off now then_ = now refl
remade_place false false true m o b is off now then_ = now refl
remade_place false true false m o b is off now then_ = is ∙ then_ refl
remade_place false false false m o b is off now then_ = is ∙ then_ refl

module _ (v w : Stack) (area : List Rectangle) (strips kept : List StripView) (near cleared joined rest : List Rectangle)
    (h : IsRemade v w area strips kept near cleared joined rest) where
  joined_is : (x y : ℤ) → covers joined x y
      ≡ ((covers near x y && not (covers area x y)) || (covers area x y && not (is_some (first_at w.bounds w.front_to_back x y))))
  joined_is x y =
      h.join x y ∙ (ap (λ t. t || covers rest x y) (h.clear x y) ∙ ap (λ t. (covers near x y && not (covers area x y)) || t) (h.left x y))

  remade_places : (x y : ℤ) → (covers (rects_of kept) x y || covers joined x y) ≡ is_bare w x y
  remade_places x y =
      let free = not (is_some (first_at w.bounds w.front_to_back x y)) in
      ap (λ t. covers (rects_of kept) x y || t) (joined_is x y)
      ∙ remade_place (covers (rects_of kept) x y) (covers near x y) (covers area x y) free (is_bare v x y) (is_bare w x y)
      (h.parted.places x y ∙ h.before.places x y) (h.parted.apart x y)
      (λ has. ap (λ t. t && free)
      (sym (ap (λ (z : Sizes). has_pixel (screen z.width z.height) x y) h.same ∙ h.inside x y has)))
      (h.bare x y)

  pub joined_inside : All (λ r. LiesIn r (screen w.sizes.width w.sizes.height)) joined
  joined_inside k d below x y has =
      (and_parts (has_pixel (screen w.sizes.width w.sizes.height) x y) (not (is_some (first_at w.bounds w.front_to_back x y)))
      (sym (remade_places x y)
      ∙ (ap (λ t. covers (rects_of kept) x y || t) (has_at joined k d x y below has) ∙ or_true (covers (rects_of kept) x y)))).0

  pub desktop_remade : (made : List StripView) → IsCanonical joined → made ≡ kept ++ map (λ r. strip_of r w.sizes.depth None) joined → IsDesktop w made
  desktop_remade made canonical is =
      let P : List StripView → Type 0 = λ l. IsDesktop w l in
      let news = map (λ r. strip_of r w.sizes.depth None) joined in
      let deep : v.sizes.depth ≡ w.sizes.depth = ap (λ (z : Sizes). z.depth) (sym h.same) in
      subst P (sym is) (record {
        disjoint = joined_disjoint kept news h.parted.disjoint (blank_disjoint w.sizes.depth joined canonical)
            (λ x y. ap (λ l. covers (rects_of kept) x y && covers l x y) (blank_rects w.sizes.depth joined)
            ∙ (ap (λ t. covers (rects_of kept) x y && t) (joined_is x y)
            ∙ kept_off (covers (rects_of kept) x y) (covers near x y) (covers area x y) (not (is_some (first_at w.bounds w.front_to_back x y)))
            (h.parted.alone x y) (h.parted.apart x y)));
        places = λ x y. covers_both kept news x y
            ∙ (ap (λ l. covers (rects_of kept) x y || covers l x y) (blank_rects w.sizes.depth joined) ∙ remade_places x y);
        pens = All-append (λ (s : StripView). s.planes ≡ blank_planes s.rect w.sizes.depth) kept news
            (subst (λ n. All (λ (s : StripView). s.planes ≡ blank_planes s.rect n) kept) deep h.parted.pens)
            (All-map (λ (s : StripView). s.planes ≡ blank_planes s.rect w.sizes.depth) (λ r. strip_of r w.sizes.depth None) joined (λ k d below. refl));
      })
