-- What is found in a list of slots, and places that rectangles have in common.
use Rattle.std.proofs.Common.{◌≡◌, ℕ, ◌==◌, Bool, true, false, not, ◌||◌, List, [], ◌∷◌, ◌++◌, ℤ, ◌≤ℤ◌, int_le, Option}
use Rattle.std.proofs.Common.{Some, None, find, refl, sym, ap, ◌∙◌, arith}
use Rattle.std.specs.Prelude.{if◌then◌else◌}
use Rattle.std.specs.Int.{int_max, int_min}
use Rattle.std.specs.List.{list_any, flat_map}
use Rattle.std.proofs.lemmas.Bool.{and_from, and_parts, or_parts, or_left, or_right, or_from, false_from_ne_true, both_ways}
use Rattle.std.proofs.lemmas.Bool.{eqb-true}
use Rattle.std.proofs.lemmas.Int.{ints}
use Rattle.lw_region.specs.Rectangle.{Rectangle, within, has_pixel}
use Rattle.lw_region.specs.Bands.{covers}
use Rattle.lw_region.proofs.Canonical.{covers_nil, covers_cons, covers_append}
use Rattle.lw_region.proofs.Columns.{le_true}
use Rattle.lw_region.proofs.Within.{within_low, within_high, within_both}
use Rattle.lw_calls.specs.declared.make.Place.{Place}
use Rattle.lw_calls.specs.declared.make.Place.TheVariants.{Front, Behind}
use Rattle.lw_machine.specs.Arrangement.{without, put_before, placed}
use Rattle.lw_machine.specs.Screen.{bounds_have}
use Rattle.lw_changes.specs.Touched.{bounds_list, meet}

-- what is found doesn't depend on an element that doesn't pass: where it is taken out
pub found_without : (test : ℕ → Bool) (s : ℕ) (us : List ℕ) → test s ≡ false → find test (without s us) ≡ find test us
found_without test s [] off = refl
found_without test s (u ∷ us) off = step (u == s) refl (found_without test s us off)
  where
    step : (b : Bool) → (u == s) ≡ b → find test (without s us) ≡ find test us
        → find test (if not b then u ∷ without s us else without s us) ≡ (if test u then Some u else find test us)
    step true e h = h ∙ sym (ap (λ t. if t then Some u else find test us) (ap test (eqb-true u s e) ∙ off))
    step false e h = ap (λ o. if test u then Some u else o) h

-- or put before another
pub found_before : (test before : ℕ → Bool) (s : ℕ) (us : List ℕ) → test s ≡ false
    → find test (put_before before s us) ≡ find test us
found_before test before s [] off = ap (λ t. if t then Some s else None) off
found_before test before s (u ∷ us) off = step (before u) (found_before test before s us off)
  where
    step : (b : Bool) → find test (put_before before s us) ≡ find test us
        → find test (if b then s ∷ u ∷ us else u ∷ put_before before s us) ≡ find test (u ∷ us)
    step true h = ap (λ t. if t then Some s else find test (u ∷ us)) off
    step false h = ap (λ o. if test u then Some u else o) h

-- or put in front
pub found_behind : (test : ℕ → Bool) (s : ℕ) (us : List ℕ) → test s ≡ false → find test (s ∷ us) ≡ find test us
found_behind test s us off = ap (λ t. if t then Some s else find test us) off

-- or placed as a new one
pub found_placed : (test backdrops : ℕ → Bool) (backdrop : Bool) (place : Place) (s : ℕ) (us : List ℕ) → test s ≡ false
    → find test (placed backdrops backdrop place s us) ≡ find test us
found_placed test backdrops false Front s us off = found_behind test s us off
found_placed test backdrops false Behind s us off = found_before test backdrops s us off
found_placed test backdrops true Front s us off = found_before test backdrops s us off
found_placed test backdrops true Behind s us off = found_before test (λ t. false) s us off

-- what is found passes
pub passes : (test : ℕ → Bool) (us : List ℕ) (s : ℕ) → find test us ≡ Some s → test s ≡ true
passes test [] s is = absurd (cc)
passes test (u ∷ us) s is = step (test u) refl (passes test us s) is
  where
    step : (b : Bool) → test u ≡ b → (find test us ≡ Some s → test s ≡ true) → (if b then Some u else find test us) ≡ Some s
        → test s ≡ true
    step true e h found = let same : u ≡ s = cc in ap test (sym same) ∙ e
    step false e h found = h found

-- the list of bounds covers the places that the bounds have
pub covers_bounds : (o : Option Rectangle) (x y : ℤ) → covers (bounds_list o) x y ≡ bounds_have o x y
covers_bounds None x y = covers_nil x y
covers_bounds (Some r) x y = covers_cons r [] x y ∙ (ap (λ t. has_pixel r x y || t) (covers_nil x y) ∙ or_false (has_pixel r x y))
  where
    or_false : (b : Bool) → (b || false) ≡ b
    or_false true = refl
    or_false false = refl

-- two lists cover no place that neither covers
pub covers_neither : (rs ss : List Rectangle) (x y : ℤ) → covers (rs ++ ss) x y ≡ false
    → (covers rs x y ≡ false) × (covers ss x y ≡ false)
covers_neither rs ss x y off = or_parts (covers rs x y) (covers ss x y) (sym (covers_append rs ss x y) ∙ off)

-- the lists of all slots cover what that of a found one covers
pub found_covers : (f : ℕ → List Rectangle) (test : ℕ → Bool) (us : List ℕ) (s : ℕ) (x y : ℤ) → find test us ≡ Some s
    → covers (f s) x y ≡ true → covers (flat_map f us) x y ≡ true
found_covers f test [] s x y is has = absurd (cc)
found_covers f test (u ∷ us) s x y is has =
    covers_append (f u) (flat_map f us) x y ∙ step (test u) (λ found. found_covers f test us s x y found has) is
  where
    step : (b : Bool) → (find test us ≡ Some s → covers (flat_map f us) x y ≡ true)
        → (if b then Some u else find test us) ≡ Some s → (covers (f u) x y || covers (flat_map f us) x y) ≡ true
    step true h found =
        let same : u ≡ s = cc in
        or_left (covers (f u) x y) (covers (flat_map f us) x y) (ap (λ k. covers (f k) x y) same ∙ has)
    step false h found = or_right (covers (f u) x y) (covers (flat_map f us) x y) (h found)

-- rectangles that have a place in common meet
pub meeting : (q r : Rectangle) (x y : ℤ) → has_pixel q x y ≡ true → has_pixel r x y ≡ true → meet q r ≡ true
meeting q r x y has too =
    let a = and_parts _ _ has in
    let b = and_parts _ _ too in
    and_from _ _ (axis q.min_x r.min_x x q.max_x r.max_x a.0 b.0) (axis q.min_y r.min_y y q.max_y r.max_y a.1 b.1)
  where
    between : (m z n : ℤ) → m ≤ℤ z → z ≤ℤ n → m ≤ℤ n
    between m z n low high = omega (arith, ints)

    axis : (a b z c e : ℤ) → within a z c ≡ true → within b z e ≡ true → int_le (int_max a b) (int_min c e) ≡ true
    axis a b z c e left right =
        let inside : within (int_max a b) z (int_min c e) ≡ true = within_both a b z c e ∙ and_from _ _ left right in
        let low : int_max a b ≤ℤ z = within_low (int_max a b) z (int_min c e) inside in
        let high : z ≤ℤ int_min c e = within_high (int_max a b) z (int_min c e) inside in
        le_true (int_max a b) (int_min c e) (between (int_max a b) z (int_min c e) low high)

-- a place of bounds that meet none of the rectangles is covered by none
pub apart_uncovered : (rects : List Rectangle) (r : Rectangle) (x y : ℤ) → list_any (λ q. meet q r) rects ≡ false
    → has_pixel r x y ≡ true → covers rects x y ≡ false
apart_uncovered [] r x y off has = covers_nil x y
apart_uncovered (q ∷ rects) r x y off has =
    let parts = or_parts (meet q r) (list_any (λ p. meet p r) rects) off in
    covers_cons q rects x y ∙
    or_from (has_pixel q x y) (covers rects x y)
    (false_from_ne_true (has_pixel q x y) (λ both. both_ways (meet q r) parts.0 (meeting q r x y both has)))
    (apart_uncovered rects r x y parts.1 has)
