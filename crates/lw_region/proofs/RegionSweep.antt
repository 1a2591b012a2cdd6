-- The sweep over the rows of two regions, step by step.
use Rattle.std.proofs.Common.{◌≡◌, ℕ, ◌+◌, ◌<◌, ◌≤◌, Some, None, Bool, true, false, cond, ◌&&◌, ◌||◌, ◌⊎◌, inl, inr, List, [], ◌∷◌, ◌++◌, map, take, drop, length, ℤ, pos, negsuc, ◌+ℤ◌, ◌-ℤ◌, ◌≤ℤ◌, ◌<ℤ◌, refl, ap, sym, ◌∙◌, arith}
use Rattle.std.specs.Prelude.{int_lt}
use Rattle.std.specs.List.{between}
use Rattle.std.specs.Int.{int_min, int_max}
use Rattle.std.specs.Ordering.{int_eq}
use Rattle.std.proofs.lemmas.Int.{ints, clamps, by_lt_z}
use Rattle.std.proofs.lemmas.Bool.{false≢true, or_left, or_from, and_left, and_right, and_parts, and_from, lt-ltb, le-ltb}
use Rattle.std.proofs.lemmas.List.{take_at, drop_at, append-nil, append_assoc, length-append}
use Rattle.std.proofs.lemmas.Slice.{between_is}
use Rattle.std.proofs.Math.Bool.{or-false, or_assoc, and-or_distrib_right}
use Rattle.lw_region.specs.declared.operation.Operation.{Operation}
use Rattle.lw_region.specs.Rectangle.{Rectangle, within}
use Rattle.lw_region.specs.Pixels.{pixels_of}
use Rattle.lw_region.specs.Bands.{Run, Band, same_runs, covers}
use Rattle.lw_region.specs.Banded.{IsCanonical, in_runs, AreRuns, in_bands, IsBand, IsAbove, AreBands, flat}
use Rattle.lw_region.specs.Operations.{holds}
use Rattle.lw_region.specs.Columns.{columns, run_rectangles, IsRowOf}
use Rattle.lw_region.specs.Rows.{band_length, first_length, first_row, next_row, begun_band, from_row, same_columns, joined_bottom, down_to, joined_rects, last_place, joined_to, with_rest}
use Rattle.lw_region.proofs.Within.{within_true, within_below, within_above}
use Rattle.lw_region.proofs.Meet.{same_bounds}
use Rattle.lw_region.proofs.Numbers.{eq_true, eq_of, of_lt as lt_true}
use Rattle.lw_region.proofs.Runs.{in_runs_nil, one_run_list, same_runs_true, same_runs_itself}
use Rattle.lw_region.proofs.Columns.{holds_none, le_lt_false as lt_false, kept, kept_second, no_rectangles}
use Rattle.lw_region.proofs.Merges.{is_none}
use Rattle.lw_region.proofs.Stacks.{in_bands_nil, in_bands_cons, none_over, starts_below_less, above_starts}
use Rattle.lw_region.proofs.Canonical.{flat_nil, covers_nil, covers_flat, band_list, are_band_list, bands_flat, flat_canonical}
use Rattle.lw_region.proofs.Flat.{below_all, columns_of_runs, length_first, flat_first, flat_append, first_row_flat, from_bands, from_flat, EndsRow, until_next_row, begun_columns, next_row_further, passed_rows, same_columns_runs, EndAbove, end_lower, end_above_push, end_above_init, end_above_last, in_bands_append, bands_push, bands_taller}

-- The lowest band is apart from those above it: `lowest` has one band, or none where there is no band at all.
abbrev pub IsLowest : List Band → List Band → Type 0
IsLowest upper [] = upper ≡ []
IsLowest upper (l ∷ []) = Unit {0}
IsLowest upper (l ∷ m ∷ ms) = ⊥

-- The list that is made, after a band: its bands, where the last of them begins, and which pixels it has.
pub record IsMade (next : ℤ) (has : ℤ → ℤ → Bool) (last : ℕ) (out : List Rectangle) : Type 0 where
  pub upper : List Band
  pub lowest : List Band
  pub short : IsLowest upper lowest
  pub made : out ≡ flat (upper ++ lowest)
  pub place : last ≡ length (flat upper)
  pub are : AreBands (upper ++ lowest)
  pub ends : EndAbove next (upper ++ lowest)
  pub pixels : (x y : ℤ) → in_bands (upper ++ lowest) x y ≡ has x y

-- the band of these runs
abbrev new_band : ℤ → ℤ → List Run → Band
new_band top bottom rs = record { top = top; bottom = bottom; runs = rs }

-- the rectangles of one band
one_flat : (b : Band) → flat (b ∷ []) ≡ run_rectangles b.top b.bottom b.runs
one_flat b = flat_first b [] ∙ (ap (λ w. run_rectangles b.top b.bottom b.runs ++ w) flat_nil ∙ append-nil (run_rectangles b.top b.bottom b.runs))

-- the pixels of one band
in_one : (b : Band) (x y : ℤ) → in_bands (b ∷ []) x y ≡ (within b.top y b.bottom && in_runs b.runs x)
in_one b x y =
    in_bands_cons b [] x y ∙ (ap (λ w. (within b.top y b.bottom && in_runs b.runs x) || w) (in_bands_nil x y) ∙ or-false _)

-- no band is joined to none below
joined_none : (upper : List Rectangle) → joined_bottom upper [] ≡ None
unfolding joined_bottom
joined_none [] = refl
joined_none (q ∷ qs) = refl

-- no band is joined to none above
joined_first : (lower : List Rectangle) → joined_bottom [] lower ≡ None
unfolding joined_bottom
joined_first lower = refl

-- two bands are joined by their rows and columns
joined_runs : (t u v w : ℤ) (rs ss : List Run) → (rs ≡ [] → ⊥) → (ss ≡ [] → ⊥)
    → joined_bottom (run_rectangles t u rs) (run_rectangles v w ss) ≡ cond (int_eq (u +ℤ pos 1) v && same_columns (run_rectangles t u rs) (run_rectangles v w ss)) (Some w) None
unfolding joined_bottom run_rectangles
joined_runs t u v w [] ss m n = absurd (m refl)
joined_runs t u v w (r ∷ rs) [] m n = absurd (n refl)
joined_runs t u v w (r ∷ rs) (s ∷ ss) m n = refl

-- runs have rectangles
some_rectangles : (top bottom : ℤ) (rs : List Run) → (rs ≡ [] → ⊥) → 0 < length (run_rectangles top bottom rs)
unfolding run_rectangles
some_rectangles top bottom [] n = absurd (n refl)
some_rectangles top bottom (r ∷ rs) n = omega arith

-- a band reaching further down
down_runs : (top bottom to : ℤ) (rs : List Run) → bottom ≤ℤ to → map (λ r. down_to r to) (run_rectangles top bottom rs) ≡ run_rectangles top to rs
unfolding run_rectangles
down_runs top bottom to [] h = refl
down_runs top bottom to (r ∷ rs) h =
    let e : int_max bottom to ≡ to = omega (arith, ints, clamps) in
    ap (λ w. w ∷ map (λ s. down_to s to) (run_rectangles top bottom rs)) (same_bounds r.first top r.last (int_max bottom to) r.first top r.last to refl refl refl e)
    ∙ ap (λ w. record { min_x = r.first; min_y = top; max_x = r.last; max_y = to } ∷ w) (down_runs top bottom to rs h)

-- the pixels with those of a further band
abbrev pub with_row : (ℤ → ℤ → Bool) → ℤ → ℤ → List Run → ℤ → ℤ → Bool
with_row has row next rs x y = has x y || (within row y (next -ℤ pos 1) && in_runs rs x)

-- a list with a band added, as it is then joined
abbrev Joined : ℤ → (ℤ → ℤ → Bool) → List Rectangle → ℕ → ℕ → Type 0
Joined next has rects last start =
    let o = joined_bottom (between last start rects) (drop start rects) in
    IsMade next has (last_place o rects last start) (joined_rects o rects last start)

-- the three parts of a list in which a band was added
record Parts (p q r : List Rectangle) (last start : ℕ) (rects : List Rectangle) : Type 0 where
  front : take last rects ≡ p
  middle : between last start rects ≡ q
  back : drop start rects ≡ r
  whole : rects ≡ (p ++ q) ++ r

-- a list is cut into its three parts
parts : (p q r : List Rectangle) (last start : ℕ) (rects : List Rectangle) → rects ≡ (p ++ q) ++ r → last ≡ length p → start ≡ length (p ++ q) → Parts p q r last start rects
parts p q r last start rects e f g =
    record {
      front = ap (take last) (e ∙ append_assoc p q r) ∙ take_at p (q ++ r) last (sym f);
      middle = between_is rects last start ∙ (ap (λ w. drop last (take start w)) e ∙ (ap (drop last) (take_at (p ++ q) r start (sym g)) ∙ drop_at p q last (sym f)));
      back = ap (drop start) e ∙ drop_at (p ++ q) r start (sym g);
      whole = e;
    }

-- no band is added where there is no run
no_band : (row next : ℤ) (has : ℤ → ℤ → Bool) (last : ℕ) (out rects : List Rectangle) → row <ℤ next → IsMade row has last out → rects ≡ out
    → joined_bottom (between last (length out) rects) (drop (length out) rects) ≡ None
    → Joined next (with_row has row next []) rects last (length out)
no_band row next has last out rects l s e j =
    let n : last_place None rects last (length out) ≡ last = ap (λ w. cond w (length out) last) (le-ltb (length out) (length rects) (omega (arith, ap length e))) in
    let m : IsMade next (with_row has row next []) (last_place None rects last (length out)) rects =
    record {
      upper = s.upper;
      lowest = s.lowest;
      short = s.short;
      made = e ∙ s.made;
      place = n ∙ s.place;
      are = s.are;
      ends = end_lower row next (s.upper ++ s.lowest) (omega (arith, ints)) s.ends;
      pixels = λ x y. s.pixels x y ∙ (sym (or-false (has x y)) ∙ ap (λ w. has x y || w) (sym (and_right (within row y (next -ℤ pos 1)) (in_runs [] x) (in_runs_nil x))));
    } in
    rw j m

module _ (row next : ℤ) (has : ℤ → ℤ → Bool) (last : ℕ) (out rects : List Rectangle) (rs : List Run)
    (further : row <ℤ next) (are : AreRuns rs) (some : rs ≡ [] → ⊥) (added : rects ≡ out ++ run_rectangles row (next -ℤ pos 1) rs) where
  -- what is added is a band
  is_band : IsBand (new_band row (next -ℤ pos 1) rs)
  is_band = record { rows = omega (arith, ints); some = some; runs = are }

  -- the list is longer with the band
  longer : last_place None rects last (length out) ≡ length out
  longer =
      let k = some_rectangles row (next -ℤ pos 1) rs some in
      ap (λ w. cond w (length out) last) (lt-ltb (length out) (length rects) (omega (arith, ap length added ∙ length-append out (run_rectangles row (next -ℤ pos 1) rs))))

  -- the first band of all
  first_band : IsMade row has last out → out ≡ [] → ((x y : ℤ) → has x y ≡ false) → last ≡ 0 → Joined next (with_row has row next rs) rects last (length out)
  first_band s e f g =
      let b = new_band row (next -ℤ pos 1) rs in
      let j : joined_bottom (between last (length out) rects) (drop (length out) rects) ≡ None =
      ap (λ w. joined_bottom w (drop (length out) rects)) (between_is rects last (length out) ∙ (ap (λ w. drop last (take (length w) rects)) e ∙ ap (λ w. drop w (take 0 rects)) g))
      ∙ joined_first (drop (length out) rects) in
      let m : IsMade next (with_row has row next rs) (last_place None rects last (length out)) rects =
      record {
        upper = [];
        lowest = b ∷ [];
        short = tt;
        made = added ∙ (ap (λ w. w ++ run_rectangles row (next -ℤ pos 1) rs) e ∙ sym (one_flat b));
        place = longer ∙ (ap length e ∙ ap length (sym flat_nil));
        are = (is_band, tt, tt);
        ends = (omega (arith, ints), tt);
        pixels = λ x y. in_one b x y ∙ ap (λ w. w || (within row y (next -ℤ pos 1) && in_runs rs x)) (sym (f x y));
      } in
      rw j m

  -- a further band that is not joined to the last one
  below_band : (upper : List Band) (l : Band) → out ≡ flat (upper ++ l ∷ []) → AreBands (upper ++ l ∷ []) → EndAbove row (upper ++ l ∷ [])
      → ((x y : ℤ) → in_bands (upper ++ l ∷ []) x y ≡ has x y)
      → (l.bottom +ℤ pos 1 ≡ row → l.runs ≡ rs → ⊥)
      → joined_bottom (between last (length out) rects) (drop (length out) rects) ≡ None
      → Joined next (with_row has row next rs) rects last (length out)
  below_band upper l e h k p d j =
      let b = new_band row (next -ℤ pos 1) rs in
      let g : (upper ++ l ∷ []) ++ b ∷ [] ≡ upper ++ l ∷ b ∷ [] = append_assoc upper (l ∷ []) (b ∷ []) in
      let m : IsMade next (with_row has row next rs) (last_place None rects last (length out)) rects =
      record {
        upper = upper ++ l ∷ [];
        lowest = b ∷ [];
        short = tt;
        made = added ∙ (ap (λ w. w ++ run_rectangles row (next -ℤ pos 1) rs) e
            ∙ (ap (λ w. flat (upper ++ l ∷ []) ++ w) (sym (one_flat b)) ∙ sym (flat_append (upper ++ l ∷ []) (b ∷ []))));
        place = longer ∙ ap length e;
        are = rw g (bands_push l b upper h (end_above_last row l upper k, d) is_band);
        ends = end_above_push next b (upper ++ l ∷ []) (end_lower row next (upper ++ l ∷ []) (omega (arith, ints)) k) (omega (arith, ints));
        pixels = λ x y. in_bands_append (upper ++ l ∷ []) (b ∷ []) x y
            ∙ (ap (λ w. w || in_bands (b ∷ []) x y) (p x y) ∙ ap (λ w. has x y || w) (in_one b x y));
      } in
      rw j m

  -- the rows of two bands that touch
  within_joined : (t u y : ℤ) → t ≤ℤ u → u +ℤ pos 1 ≡ row → (within t y u || within row y (next -ℤ pos 1)) ≡ within t y (next -ℤ pos 1)
  within_joined t u y h e =
      by_lt_z y t
      (λ a. or_from _ _ (within_below t y u a) (within_below row y (next -ℤ pos 1) (omega (arith, ints))) ∙ sym (within_below t y (next -ℤ pos 1) a))
      (λ a. by_lt_z u y
      (λ b. ap (λ w. w || within row y (next -ℤ pos 1)) (within_above t y u b) ∙ by_lt_z (next -ℤ pos 1) y
      (λ g. within_above row y (next -ℤ pos 1) g ∙ sym (within_above t y (next -ℤ pos 1) g))
      (λ g. within_true row y (next -ℤ pos 1) (omega (arith, ints)) g ∙ sym (within_true t y (next -ℤ pos 1) a g)))
      (λ b. or_left _ _ (within_true t y u a b) ∙ sym (within_true t y (next -ℤ pos 1) a (omega (arith, ints)))))

  -- a further band that is joined to the last one
  joined_band : (upper : List Band) (l : Band) → out ≡ flat (upper ++ l ∷ []) → AreBands (upper ++ l ∷ []) → IsBand l → EndAbove row (upper ++ l ∷ [])
      → ((x y : ℤ) → in_bands (upper ++ l ∷ []) x y ≡ has x y) → last ≡ length (flat upper)
      → l.bottom +ℤ pos 1 ≡ row → l.runs ≡ rs
      → joined_bottom (between last (length out) rects) (drop (length out) rects) ≡ Some (next -ℤ pos 1)
      → take last rects ≡ flat upper → between last (length out) rects ≡ run_rectangles l.top l.bottom l.runs
      → Joined next (with_row has row next rs) rects last (length out)
  joined_band upper l e h i k p g a f j front middle =
      let b = new_band l.top (next -ℤ pos 1) l.runs in
      let q = i.rows in
      let m : IsMade next (with_row has row next rs) last (take last rects ++ map (λ r. down_to r (next -ℤ pos 1)) (between last (length out) rects)) =
      record {
        upper = upper;
        lowest = b ∷ [];
        short = tt;
        made = ap (λ w. w ++ map (λ r. down_to r (next -ℤ pos 1)) (between last (length out) rects)) front
            ∙ (ap (λ w. flat upper ++ map (λ r. down_to r (next -ℤ pos 1)) w) middle
            ∙ (ap (λ w. flat upper ++ w) (down_runs l.top l.bottom (next -ℤ pos 1) l.runs (omega (arith, ints)) ∙ sym (one_flat b)) ∙ sym (flat_append upper (b ∷ []))));
        place = g;
        are = bands_taller l b upper refl refl (record { rows = omega (arith, ints); some = i.some; runs = i.runs }) h;
        ends = end_above_push next b upper (end_lower row next upper (omega (arith, ints)) (end_above_init row l upper k)) (omega (arith, ints));
        pixels = λ x y.
            in_bands_append upper (b ∷ []) x y
            ∙ (ap (λ w. in_bands upper x y || w) (in_one b x y
            ∙ (ap (λ w. w && in_runs l.runs x) (sym (within_joined l.top l.bottom y q a))
            ∙ ((and-or_distrib_right (within l.top y l.bottom) (within row y (next -ℤ pos 1)) (in_runs l.runs x))
            ∙ (ap (λ w. w || (within row y (next -ℤ pos 1) && in_runs l.runs x)) (sym (in_one l x y))
            ∙ ap (λ w. in_bands (l ∷ []) x y || (within row y (next -ℤ pos 1) && in_runs w x)) f))))
            ∙ (sym (or_assoc (in_bands upper x y) (in_bands (l ∷ []) x y) (within row y (next -ℤ pos 1) && in_runs rs x))
            ∙ ap (λ w. w || (within row y (next -ℤ pos 1) && in_runs rs x)) (sym (in_bands_append upper (l ∷ []) x y) ∙ p x y)));
      } in
      rw j m

-- the last band is a band
last_is_band : (us : List Band) (l : Band) → AreBands (us ++ l ∷ []) → IsBand l
last_is_band [] l h = h.0
last_is_band (u ∷ us) l h = last_is_band us l h.2

-- the two last bands are joined where they go on with the same runs
next_band_step : (row next : ℤ) (has : ℤ → ℤ → Bool) (last : ℕ) (out rects : List Rectangle) (rs : List Run) → row <ℤ next → AreRuns rs → (rs ≡ [] → ⊥)
    → rects ≡ out ++ run_rectangles row (next -ℤ pos 1) rs → (upper : List Band) (l : Band)
    → out ≡ flat (upper ++ l ∷ []) → last ≡ length (flat upper) → AreBands (upper ++ l ∷ []) → EndAbove row (upper ++ l ∷ [])
    → ((x y : ℤ) → in_bands (upper ++ l ∷ []) x y ≡ has x y)
    → Parts (flat upper) (run_rectangles l.top l.bottom l.runs) (run_rectangles row (next -ℤ pos 1) rs) last (length out) rects
    → (t : Bool) → (int_eq (l.bottom +ℤ pos 1) row && same_runs l.runs rs) ≡ t
    → joined_bottom (between last (length out) rects) (drop (length out) rects) ≡ cond t (Some (next -ℤ pos 1)) None
    → Joined next (with_row has row next rs) rects last (length out)
next_band_step row next has last out rects rs f k n m upper l e g h i p q true t j =
    let u = and_parts (int_eq (l.bottom +ℤ pos 1) row) (same_runs l.runs rs) t in
    joined_band row next has last out rects rs f k n m upper l e h (last_is_band upper l h) i p g (eq_of (l.bottom +ℤ pos 1) row u.0) (same_runs_true l.runs rs u.1) j q.front q.middle
next_band_step row next has last out rects rs f k n m upper l e g h i p q false t j =
    below_band row next has last out rects rs f k n m upper l e h i p
    (λ a b. false≢true (sym t ∙ and_from _ _ (eq_true (l.bottom +ℤ pos 1) row a) (ap (λ w. same_runs w rs) b ∙ same_runs_itself rs))) j

-- a band that has runs is added
next_band : (row next : ℤ) (has : ℤ → ℤ → Bool) (last : ℕ) (out rects : List Rectangle) (rs : List Run) → row <ℤ next → AreRuns rs → (rs ≡ [] → ⊥)
    → rects ≡ out ++ run_rectangles row (next -ℤ pos 1) rs → (upper lowest : List Band) → IsLowest upper lowest
    → out ≡ flat (upper ++ lowest) → last ≡ length (flat upper) → AreBands (upper ++ lowest) → EndAbove row (upper ++ lowest)
    → ((x y : ℤ) → in_bands (upper ++ lowest) x y ≡ has x y)
    → IsMade row has last out
    → Joined next (with_row has row next rs) rects last (length out)
next_band row next has last out rects rs f k n m upper [] s e g h i p d =
    let u : upper ++ [] ≡ [] = append-nil upper ∙ s in
    first_band row next has last out rects rs f k n m d (e ∙ (ap flat u ∙ flat_nil))
    (λ x y. sym (p x y) ∙ (ap (λ w. in_bands w x y) u ∙ in_bands_nil x y)) (g ∙ (ap (λ w. length (flat w)) s ∙ ap length flat_nil))
next_band row next has last out rects rs f k n m upper (l ∷ []) s e g h i p d =
    let o : out ≡ flat upper ++ run_rectangles l.top l.bottom l.runs = e ∙ (flat_append upper (l ∷ []) ∙ ap (λ w. flat upper ++ w) (one_flat l)) in
    let q = parts (flat upper) (run_rectangles l.top l.bottom l.runs) (run_rectangles row (next -ℤ pos 1) rs) last (length out) rects
    (m ∙ ap (λ w. w ++ run_rectangles row (next -ℤ pos 1) rs) o) g (ap length o) in
    let b = last_is_band upper l h in
    next_band_step row next has last out rects rs f k n m upper l e g h i p q (int_eq (l.bottom +ℤ pos 1) row && same_runs l.runs rs) refl
    (ap (λ w. joined_bottom w (drop (length out) rects)) q.middle
    ∙ (ap (λ w. joined_bottom (run_rectangles l.top l.bottom l.runs) w) q.back
    ∙ (joined_runs l.top l.bottom row (next -ℤ pos 1) l.runs rs b.some n
    ∙ ap (λ w. cond (int_eq (l.bottom +ℤ pos 1) row && w) (Some (next -ℤ pos 1)) None) (same_columns_runs l.top l.bottom row (next -ℤ pos 1) l.runs rs))))
next_band row next has last out rects rs f k n m upper (l ∷ v ∷ vs) s e g h i p d = absurd s

-- a list with an element is not empty
not_nil : (r : Run) (rs : List Run) → (r ∷ rs) ≡ [] → ⊥
not_nil r rs e = cc

-- a band is added and joined
band_added : (row next : ℤ) (has : ℤ → ℤ → Bool) (last : ℕ) (out rects : List Rectangle) (rs : List Run) → row <ℤ next → AreRuns rs
    → rects ≡ out ++ run_rectangles row (next -ℤ pos 1) rs → IsMade row has last out → Joined next (with_row has row next rs) rects last (length out)
band_added row next has last out rects [] f k m s =
    let e : rects ≡ out = m ∙ (ap (λ w. out ++ w) (no_rectangles row (next -ℤ pos 1)) ∙ append-nil out) in
    no_band row next has last out rects f s e
    (ap (λ w. joined_bottom (between last (length out) rects) w)
    (ap (drop (length out)) (e ∙ sym (append-nil out)) ∙ drop_at out [] (length out) refl)
    ∙ joined_none (between last (length out) rects))
band_added row next has last out rects (r ∷ rs) f k m s =
    next_band row next has last out rects (r ∷ rs) f k (λ e. not_nil r rs e) m s.upper s.lowest s.short s.made s.place s.are s.ends s.pixels s

-- The sweep over the rows of a₀ and b₀ has come to row `row`: left_a and left_b are what is left of them, and `out` is the list that
-- is made of the rows above, whose last band begins at `last`.
pub record SweepState (operation : Operation) (a₀ b₀ left_a left_b : List Rectangle) (row : ℤ) (last : ℕ) (out : List Rectangle) : Type 0 where
  pub bands_a : List Band
  pub is_a : left_a ≡ flat bands_a
  pub are_a : AreBands bands_a
  pub ends_a : EndsRow row bands_a
  pub same_a : (x y : ℤ) → row ≤ℤ y → covers a₀ x y ≡ in_bands bands_a x y
  pub bands_b : List Band
  pub is_b : left_b ≡ flat bands_b
  pub are_b : AreBands bands_b
  pub ends_b : EndsRow row bands_b
  pub same_b : (x y : ℤ) → row ≤ℤ y → covers b₀ x y ≡ in_bands bands_b x y
  pub low : negsuc 32767 ≤ℤ row
  pub most : row ≤ℤ pos 32768
  pub made : IsMade row (λ x y. int_lt y row && holds operation (covers a₀ x y) (covers b₀ x y)) last out

-- the same pixels by another test
made_same : (row : ℤ) (has has' : ℤ → ℤ → Bool) (last : ℕ) (out : List Rectangle) → ((x y : ℤ) → has x y ≡ has' x y) → IsMade row has last out → IsMade row has' last out
made_same row has has' last out e s =
    record {
      upper = s.upper;
      lowest = s.lowest;
      short = s.short;
      made = s.made;
      place = s.place;
      are = s.are;
      ends = s.ends;
      pixels = λ x y. s.pixels x y ∙ e x y;
    }

module _ (operation : Operation) (a₀ b₀ left_a left_b : List Rectangle) (row : ℤ) (last : ℕ) (out : List Rectangle)
    (s : SweepState operation a₀ b₀ left_a left_b row last out) where
  -- the first bands lie from left to right
  pub columns_a : AreRuns (columns (begun_band left_a row))
  columns_a = rw (s.is_a) (begun_columns s.bands_a row s.are_a)

  -- the same of the second operand
  pub columns_b : AreRuns (columns (begun_band left_b row))
  columns_b = rw (s.is_b) (begun_columns s.bands_b row s.are_b)

  -- the last band begins in the list
  pub place_within : last ≤ length out
  place_within =
      let m = s.made in
      let e : length out ≡ length (flat m.upper) + length (flat m.lowest) = ap length (m.made ∙ flat_append m.upper m.lowest) ∙ length-append (flat m.upper) (flat m.lowest) in
      let f = m.place in
      omega arith

  -- the rows that are done, with those of the new band
  row_settled : (h : Bool) (rs : List Run) (next x y : ℤ) → row <ℤ next → (row ≤ℤ y → y <ℤ next → h ≡ in_runs rs x)
      → ((int_lt y row && h) || (within row y (next -ℤ pos 1) && in_runs rs x)) ≡ (int_lt y next && h)
  row_settled h rs next x y f e =
      by_lt_z y row
      (λ a. ap (λ w. (w && h) || (within row y (next -ℤ pos 1) && in_runs rs x)) (lt_true y row a)
      ∙ (ap (λ w. h || (w && in_runs rs x)) (within_below row y (next -ℤ pos 1) a)
      ∙ (or-false h ∙ ap (λ w. w && h) (sym (lt_true y next (omega (arith, ints)))))))
      (λ a. ap (λ w. (w && h) || (within row y (next -ℤ pos 1) && in_runs rs x)) (lt_false y row a) ∙ by_lt_z y next
      (λ b. ap (λ w. w && in_runs rs x) (within_true row y (next -ℤ pos 1) a (omega (arith, ints)))
      ∙ (sym (e a b) ∙ ap (λ w. w && h) (sym (lt_true y next b))))
      (λ b. ap (λ w. w && in_runs rs x) (within_above row y (next -ℤ pos 1) (omega (arith, ints))) ∙ ap (λ w. w && h) (sym (lt_false y next b))))

  module _ (next : ℤ) (rects : List Rectangle) (further : row <ℤ next) (next_a : next ≤ℤ next_row left_a row) (next_b : next ≤ℤ next_row left_b row) (most : next ≤ℤ pos 32768)
      (r : IsRowOf operation (begun_band left_a row) (begun_band left_b row) row (next -ℤ pos 1) out rects) where
    near_a : next ≤ℤ next_row (flat s.bands_a) row
    near_a = rw s.is_a at next_a

    near_b : next ≤ℤ next_row (flat s.bands_b) row
    near_b = rw s.is_b at next_b

    -- the rows up to the next change have the runs that are added
    segment_rows : (x y : ℤ) → row ≤ℤ y → y <ℤ next → holds operation (covers a₀ x y) (covers b₀ x y) ≡ in_runs r.runs x
    segment_rows x y h k =
        let p = near_a in
        let q = near_b in
        let a = s.same_a x y h ∙ (until_next_row s.bands_a row x y s.are_a s.ends_a h (omega (arith, ints)) ∙ ap (λ w. in_runs (columns (begun_band w row)) x) (sym s.is_a)) in
        let b = s.same_b x y h ∙ (until_next_row s.bands_b row x y s.are_b s.ends_b h (omega (arith, ints)) ∙ ap (λ w. in_runs (columns (begun_band w row)) x) (sym s.is_b)) in
        ap (λ w. holds operation w (covers b₀ x y)) a ∙ (ap (λ w. holds operation (in_runs (columns (begun_band left_a row)) x) w) b ∙ sym (r.has x))

    -- one step of the sweep
    pub sweep_step : let o = joined_bottom (between last (length out) rects) (drop (length out) rects) in
        SweepState operation a₀ b₀ (from_row left_a next) (from_row left_b next) next (last_place o rects last (length out)) (joined_rects o rects last (length out))
    sweep_step =
        let pa = passed_rows s.bands_a row next s.are_a near_a in
        let pb = passed_rows s.bands_b row next s.are_b near_b in
        let l = s.low in
        record {
          bands_a = from_bands s.bands_a next;
          is_a = ap (λ w. from_row w next) s.is_a ∙ from_flat s.bands_a next s.are_a;
          are_a = pa.are;
          ends_a = pa.ends;
          same_a = λ x y h. s.same_a x y (omega (arith, ints)) ∙ pa.same x y h;
          bands_b = from_bands s.bands_b next;
          is_b = ap (λ w. from_row w next) s.is_b ∙ from_flat s.bands_b next s.are_b;
          are_b = pb.are;
          ends_b = pb.ends;
          same_b = λ x y h. s.same_b x y (omega (arith, ints)) ∙ pb.same x y h;
          low = omega (arith, ints);
          most = most;
          made = made_same next _ _ _ _
              (λ x y. row_settled (holds operation (covers a₀ x y) (covers b₀ x y)) r.runs next x y further (segment_rows x y))
              (band_added row next (λ x y. int_lt y row && holds operation (covers a₀ x y) (covers b₀ x y)) last out rects r.runs further r.are r.made s.made);
        }

-- with no band there is no change
next_of_none : (row : ℤ) → next_row [] row ≡ pos 32768
unfolding next_row
next_of_none row = refl

-- the sweep goes on, by what is left of either
further_step : (left_a left_b : List Rectangle) (bs cs : List Band) (row next : ℤ) → left_a ≡ flat bs → left_b ≡ flat cs → AreBands bs → AreBands cs
    → EndsRow row bs → EndsRow row cs → 0 < length left_a + length left_b → next_row left_a row ≤ℤ pos 32768 → next_row left_b row ≤ℤ pos 32768
    → next ≡ int_min (next_row left_a row) (next_row left_b row) → row <ℤ next
further_step left_a left_b [] [] row next e f h k i j n l m g =
    absurd (omega (arith, ap length (e ∙ flat_nil), ap length (f ∙ flat_nil)))
further_step left_a left_b [] (c ∷ cs) row next e f h k i j n l m g =
    let p : next_row left_a row ≡ pos 32768 = ap (λ w. next_row w row) (e ∙ flat_nil) ∙ next_of_none row in
    let q : row <ℤ next_row left_b row = rw f (next_row_further c cs row k j) in
    omega (arith, ints, clamps)
further_step left_a left_b (b ∷ bs) [] row next e f h k i j n l m g =
    let p : next_row left_b row ≡ pos 32768 = ap (λ w. next_row w row) (f ∙ flat_nil) ∙ next_of_none row in
    let q : row <ℤ next_row left_a row = rw e (next_row_further b bs row h i) in
    omega (arith, ints, clamps)
further_step left_a left_b (b ∷ bs) (c ∷ cs) row next e f h k i j n l m g =
    let p : row <ℤ next_row left_a row = rw e (next_row_further b bs row h i) in
    let q : row <ℤ next_row left_b row = rw f (next_row_further c cs row k j) in
    omega (arith, ints, clamps)

-- while something is left the sweep goes on downwards
pub sweep_further : (operation : Operation) (a₀ b₀ left_a left_b : List Rectangle) (row : ℤ) (last : ℕ) (out : List Rectangle) (next : ℤ)
    → SweepState operation a₀ b₀ left_a left_b row last out → 0 < length left_a + length left_b
    → next_row left_a row ≤ℤ pos 32768 → next_row left_b row ≤ℤ pos 32768 → next ≡ int_min (next_row left_a row) (next_row left_b row) → row <ℤ next
sweep_further operation a₀ b₀ left_a left_b row last out next s n l m g =
    further_step left_a left_b s.bands_a s.bands_b row next s.is_a s.is_b s.are_a s.are_b s.ends_a s.ends_b n l m g

-- the first band that is left has rows ahead
further_left : (left : List Rectangle) (bs : List Band) (row : ℤ) → left ≡ flat bs → AreBands bs → EndsRow row bs → 0 < length left → row <ℤ next_row left row
further_left left [] row e h k n = absurd (omega (arith, ap length (e ∙ flat_nil)))
further_left left (b ∷ bs) row e h k n = rw e (next_row_further b bs row h k)

-- the same of either operand
pub rows_left : (operation : Operation) (a₀ b₀ left_a left_b : List Rectangle) (row : ℤ) (last : ℕ) (out : List Rectangle) → SweepState operation a₀ b₀ left_a left_b row last out
    → (0 < length left_a → row <ℤ next_row left_a row) × (0 < length left_b → row <ℤ next_row left_b row)
rows_left operation a₀ b₀ left_a left_b row last out s =
    (λ n. further_left left_a s.bands_a row s.is_a s.are_a s.ends_a n, λ n. further_left left_b s.bands_b row s.is_b s.are_b s.ends_b n)

-- the first band does not end above where it begins
first_ends_row : (rects : List Rectangle) (bs : List Band) (row : ℤ) → rects ≡ flat bs → AreBands bs → row ≤ℤ first_row rects → EndsRow row bs
first_ends_row rects [] row e h k = tt
first_ends_row rects (b ∷ bs) row e h k =
    let f : first_row rects ≡ b.top = ap first_row e ∙ first_row_flat b bs h in let p = h.0.rows in omega (arith, ints)

-- no row is above the first band
first_over : (rects : List Rectangle) (bs : List Band) (row x y : ℤ) → rects ≡ flat bs → AreBands bs → row ≤ℤ first_row rects → y <ℤ row → in_bands bs x y ≡ false
first_over rects [] row x y e h k l = in_bands_nil x y
first_over rects (b ∷ bs) row x y e h k l =
    let f : first_row rects ≡ b.top = ap first_row e ∙ first_row_flat b bs h in none_over (b ∷ bs) x y h (omega (arith, ints))

-- a canonical list is that of its bands
canonical_flat : (rects : List Rectangle) → IsCanonical rects → rects ≡ flat (band_list (pixels_of rects))
canonical_flat rects h = sym h ∙ bands_flat (pixels_of rects)

-- where the sweep begins
pub sweep_start : (operation : Operation) (a b : List Rectangle) (row : ℤ) → IsCanonical a → IsCanonical b → row ≤ℤ first_row a → row ≤ℤ first_row b
    → negsuc 32767 ≤ℤ row → row ≤ℤ pos 32768 → SweepState operation a b a b row 0 []
sweep_start operation a b row h k l m n o =
    let bs = band_list (pixels_of a) in
    let cs = band_list (pixels_of b) in
    let e = canonical_flat a h in
    let f = canonical_flat b k in
    let p = are_band_list (pixels_of a) in
    let q = are_band_list (pixels_of b) in
    let in_a : (x y : ℤ) → covers a x y ≡ in_bands bs x y = λ x y. ap (λ w. covers w x y) e ∙ covers_flat bs x y in
    let in_b : (x y : ℤ) → covers b x y ≡ in_bands cs x y = λ x y. ap (λ w. covers w x y) f ∙ covers_flat cs x y in
    record {
      bands_a = bs;
      is_a = e;
      are_a = p;
      ends_a = first_ends_row a bs row e p l;
      same_a = λ x y r. in_a x y;
      bands_b = cs;
      is_b = f;
      are_b = q;
      ends_b = first_ends_row b cs row f q m;
      same_b = λ x y r. in_b x y;
      low = n;
      most = o;
      made = record {
        upper = [];
        lowest = [];
        short = refl;
        made = sym flat_nil;
        place = sym (ap length flat_nil);
        are = tt;
        ends = tt;
        pixels = λ x y. in_bands_nil x y ∙ by_lt_z y row
            (λ r. sym (and_right (int_lt y row) _
            (ap (λ w. holds operation w (covers b x y)) (in_a x y ∙ first_over a bs row x y e p l r)
            ∙ (ap (λ w. holds operation false w) (in_b x y ∙ first_over b cs row x y f q m r) ∙ holds_none operation))))
            (λ r. sym (and_left (int_lt y row) _ (lt_false y row r)));
      };
    }

-- a band ends above where the last one begins
top_below : (u l : Band) (us : List Band) → AreBands (u ∷ (us ++ l ∷ [])) → u.bottom <ℤ l.top
top_below u l [] h = h.1.0
top_below u l (v ∷ us) h = let p = h.1.0 in let q = top_below v l us h.2 in let r = h.2.0.rows in omega (arith, ints)

-- the bands end above where the last one begins
end_top : (l : Band) (us : List Band) → AreBands (us ++ l ∷ []) → EndAbove l.top us
end_top l [] h = tt
end_top l (u ∷ us) h = (top_below u l us h, end_top l us h.2)

-- the last row of the last band
in_last : (l : Band) (us : List Band) (x : ℤ) → AreBands (us ++ l ∷ []) → in_bands (us ++ l ∷ []) x l.bottom ≡ in_runs l.runs x
in_last l us x h =
    let o = (last_is_band us l h).rows in
    in_bands_append us (l ∷ []) x l.bottom
    ∙ (ap (λ w. w || in_bands (l ∷ []) x l.bottom) (below_all us x l.bottom l.top (end_top l us h) o)
    ∙ (in_one l x l.bottom ∙ ap (λ w. w && in_runs l.runs x) (within_true l.top l.bottom l.bottom o (omega (arith, ints)))))

-- bands below bands
bands_follow : (us : List Band) (l : Band) (cs : List Band) → AreBands (us ++ l ∷ []) → IsAbove l cs → AreBands cs → AreBands (us ++ l ∷ cs)
bands_follow [] l cs h k m = (h.0, k, m)
bands_follow (u ∷ []) l cs h k m = (h.0, h.1, bands_follow [] l cs h.2 k m)
bands_follow (u ∷ v ∷ us) l cs h k m = (h.0, h.1, bands_follow (v ∷ us) l cs h.2 k m)

-- the last band is above the others that are left, where those go on with other runs
above_rest : (b l : Band) (cs : List Band) → IsAbove b cs → l.bottom ≤ℤ b.bottom → (l.bottom ≡ b.bottom → l.runs ≡ b.runs) → IsAbove l cs
above_rest b l [] h k e = tt
above_rest b l (c ∷ cs) h k e =
    let p = h.0 in
    (omega (arith, ints), λ q r. let f : l.bottom ≡ b.bottom = omega (arith, ints) in h.1 (ap (λ w. w +ℤ pos 1) (sym f) ∙ q) (sym (e f) ∙ r))

-- the others that are left go below the bands that are made
rest_bands : (b : Band) (bs : List Band) (top : ℤ) (has : ℤ → ℤ → Bool) (last : ℕ) (out : List Rectangle) → AreBands (b ∷ bs) → top ≤ℤ b.bottom
    → ((x y : ℤ) → top ≤ℤ y → has x y ≡ false) → (upper lowest : List Band) → IsLowest upper lowest → AreBands (upper ++ lowest) → EndAbove (b.bottom +ℤ pos 1) (upper ++ lowest)
    → ((x y : ℤ) → in_bands (upper ++ lowest) x y ≡ with_row has top (b.bottom +ℤ pos 1) b.runs x y) → AreBands ((upper ++ lowest) ++ bs)
rest_bands b bs top has last out h k f upper [] s a e p = rw (append-nil upper ∙ s) h.2
rest_bands b bs top has last out h k f upper (l ∷ []) s a e p =
    let o = end_above_last (b.bottom +ℤ pos 1) l upper e in
    let same : l.bottom ≡ b.bottom → l.runs ≡ b.runs = λ q.
    one_run_list l.runs b.runs (last_is_band upper l a).runs h.0.runs (λ x.
    sym (in_last l upper x a)
    ∙ (p x l.bottom ∙ (ap (λ w. w || (within top l.bottom (b.bottom +ℤ pos 1 -ℤ pos 1) && in_runs b.runs x)) (f x l.bottom (omega (arith, ints)))
    ∙ ap (λ w. w && in_runs b.runs x) (within_true top l.bottom (b.bottom +ℤ pos 1 -ℤ pos 1) (omega (arith, ints)) (omega (arith, ints)))))) in
    rw (append_assoc upper (l ∷ []) bs) (bands_follow upper l bs a (above_rest b l bs h.1 (omega (arith, ints)) same) h.2)
rest_bands b bs top has last out h k f upper (l ∷ v ∷ vs) s a e p = absurd s

-- what is left of one region, by its first band
module _ (t u : ℤ) (tail : List Rectangle) (row : ℤ) (last : ℕ) (out : List Rectangle) where
  rest_app : (rs : List Run) → (rs ≡ [] → ⊥)
      → with_rest (run_rectangles t u rs ++ tail) row last out
      ≡ joined_to out last (run_rectangles (int_max row t) u (columns (take (band_length t (run_rectangles t u rs ++ tail)) (run_rectangles t u rs ++ tail))))
      ++ drop (band_length t (run_rectangles t u rs ++ tail)) (run_rectangles t u rs ++ tail)
  unfolding with_rest first_length run_rectangles
  rest_app [] n = absurd (n refl)
  rest_app (r ∷ rs) n = refl

-- the list with all that is left of a region
rest_flat : (b : Band) (bs : List Band) (row : ℤ) (last : ℕ) (out : List Rectangle) → AreBands (b ∷ bs)
    → with_rest (flat (b ∷ bs)) row last out ≡ joined_to out last (run_rectangles (int_max row b.top) b.bottom b.runs) ++ flat bs
rest_flat b bs row last out h =
    let q = run_rectangles b.top b.bottom b.runs in
    let n = length_first b bs h in
    ap (λ w. with_rest w row last out) (flat_first b bs)
    ∙ (rest_app b.top b.bottom (flat bs) row last out b.runs h.0.some
    ∙ (ap (λ w. joined_to out last (run_rectangles (int_max row b.top) b.bottom (columns w)) ++ drop (band_length b.top (q ++ flat bs)) (q ++ flat bs)) (take_at q (flat bs) _ n)
    ∙ (ap (λ w. joined_to out last (run_rectangles (int_max row b.top) b.bottom w) ++ drop (band_length b.top (q ++ flat bs)) (q ++ flat bs)) (columns_of_runs b.top b.bottom b.runs)
    ∙ ap (λ w. joined_to out last (run_rectangles (int_max row b.top) b.bottom b.runs) ++ w) (drop_at q (flat bs) _ n))))

-- the rows of a span from some row in it on
within_from : (row t y u : ℤ) → row ≤ℤ y → within (int_max row t) y u ≡ within t y u
within_from row t y u h =
    by_lt_z y t
    (λ a. within_below (int_max row t) y u (omega (arith, ints, clamps)) ∙ sym (within_below t y u a))
    (λ a. by_lt_z u y
    (λ b. within_above (int_max row t) y u b ∙ sym (within_above t y u b))
    (λ b. within_true (int_max row t) y u (omega (arith, ints, clamps)) b ∙ sym (within_true t y u a b)))

-- the rows that are left, and the rows above them
rest_pixels : (b : Band) (bs : List Band) (row x y : ℤ) (has : Bool) → AreBands (b ∷ bs) → row ≤ℤ b.bottom → (row ≤ℤ y → has ≡ false)
    → ((has || (within (int_max row b.top) y (b.bottom +ℤ pos 1 -ℤ pos 1) && in_runs b.runs x)) || in_bands bs x y) ≡ cond (int_lt y row) has (in_bands (b ∷ bs) x y)
rest_pixels b bs row x y has h k f =
    let e : b.bottom +ℤ pos 1 -ℤ pos 1 ≡ b.bottom = omega (arith, ints) in
    let o = h.0.rows in
    by_lt_z y row
    (λ a. rw (
      lt_true y row a,
      within_below (int_max row b.top) y (b.bottom +ℤ pos 1 -ℤ pos 1) (omega (arith, ints, clamps)),
      none_over bs x y h.2 (starts_below_less y b.bottom bs (omega (arith, ints)) (above_starts b bs h.1)),
    ) (or-false (has || false) ∙ or-false has))
    (λ a. rw (lt_false y row a, f a, e) (ap (λ w. (w && in_runs b.runs x) || in_bands bs x y) (within_from row b.top y b.bottom a) ∙ sym (in_bands_cons b bs x y)))

-- nothing is left
rest_none : (row : ℤ) (last : ℕ) (out : List Rectangle) → with_rest [] row last out ≡ out
unfolding with_rest
rest_none row last out = refl

-- where one of two regions is left
finish : (row : ℤ) (due : ℤ → ℤ → Bool) (last : ℕ) (out : List Rectangle) → IsMade row (λ x y. int_lt y row && due x y) last out
    → (bs : List Band) → AreBands bs → EndsRow row bs → ((x y : ℤ) → row ≤ℤ y → due x y ≡ in_bands bs x y)
    → IsCanonical (with_rest (flat bs) row last out) × ((x y : ℤ) → covers (with_rest (flat bs) row last out) x y ≡ due x y)
finish row due last out s [] h k e =
    let r : with_rest (flat []) row last out ≡ flat (s.upper ++ s.lowest) = ap (λ w. with_rest w row last out) flat_nil ∙ (rest_none row last out ∙ s.made) in (
      rw r (flat_canonical (s.upper ++ s.lowest) s.are),
      λ x y. ap (λ w. covers w x y) r ∙ (covers_flat (s.upper ++ s.lowest) x y ∙ (s.pixels x y ∙ by_lt_z y row
          (λ a. ap (λ w. w && due x y) (lt_true y row a))
          (λ a. ap (λ w. w && due x y) (lt_false y row a) ∙ sym (e x y a ∙ in_bands_nil x y)))),
    )
finish row due last out s (b ∷ bs) h k e =
    let top = int_max row b.top in
    let next = b.bottom +ℤ pos 1 in
    let o = h.0.rows in
    let has : ℤ → ℤ → Bool = λ x y. int_lt y row && due x y in
    let none : (x y : ℤ) → row ≤ℤ y → has x y ≡ false = λ x y a. ap (λ w. w && due x y) (lt_false y row a) in
    let lower : IsMade top has last out = record {
      upper = s.upper;
      lowest = s.lowest;
      short = s.short;
      made = s.made;
      place = s.place;
      are = s.are;
      ends = end_lower row top (s.upper ++ s.lowest) (omega (arith, ints, clamps)) s.ends;
      pixels = s.pixels;
    } in
    let rects = out ++ run_rectangles top b.bottom b.runs in
    let found = joined_bottom (between last (length out) rects) (drop (length out) rects) in
    let j : IsMade next (with_row has top next b.runs) (last_place found rects last (length out)) (joined_rects found rects last (length out)) =
    band_added top next has last out rects b.runs (omega (arith, ints, clamps)) h.0.runs
    (ap (λ w. out ++ run_rectangles top w b.runs) (omega (arith, ints))) lower in
    let us = j.upper ++ j.lowest in
    let are = rest_bands b bs top has last out h (omega (arith, ints, clamps)) (λ x y a. none x y (omega (arith, ints, clamps))) j.upper j.lowest j.short j.are j.ends j.pixels in
    let r : with_rest (flat (b ∷ bs)) row last out ≡ flat (us ++ bs) = rest_flat b bs row last out h ∙ (ap (λ w. w ++ flat bs) j.made ∙ sym (flat_append us bs)) in (
      rw r (flat_canonical (us ++ bs) are),
      λ x y. ap (λ w. covers w x y) r ∙ (covers_flat (us ++ bs) x y ∙ (in_bands_append us bs x y ∙ (ap (λ w. w || in_bands bs x y) (j.pixels x y)
          ∙ (rest_pixels b bs row x y (has x y) h k (none x y) ∙ by_lt_z y row
          (λ a. rw (lt_true y row a) refl)
          (λ a. rw (lt_false y row a) (sym (e x y a))))))),
    )

-- an alternative that makes no difference
cond_same : {A : Type 0} (t : Bool) (x : A) → cond t x x ≡ x
cond_same true x = refl
cond_same false x = refl

-- where nothing is left there is no change
pub rest_empty : (t : Bool) (rects : List Rectangle) (row : ℤ) (last : ℕ) (out : List Rectangle) → length rects ≡ 0 → cond t (with_rest rects row last out) out ≡ out
rest_empty t rects row last out n =
    ap (λ w. cond t w out) (ap (λ w. with_rest w row last out) (is_none rects n) ∙ rest_none row last out) ∙ cond_same t out

-- the first band that is left begins above its end
pub top_inside : (rects : List Rectangle) (r : Rectangle) (rs : List Rectangle) (row : ℤ) → rects ≡ r ∷ rs → row <ℤ next_row rects row → r.min_y ≤ℤ r.max_y → int_max row r.min_y ≤ℤ r.max_y
unfolding next_row
top_inside rects r rs row e h k =
    let l : row <ℤ next_row (r ∷ rs) row = rw e at h in
    by_lt_z row r.min_y
    (λ a. omega (arith, ints, clamps))
    (λ a. let m : row <ℤ (r.max_y +ℤ pos 1) = rw (lt_false row r.min_y a) at l in omega (arith, ints, clamps))

-- the list that is made of it
pub rest_made : (rects : List Rectangle) (r : Rectangle) (rs : List Rectangle) (n : ℕ) (row top bottom : ℤ) (last start : ℕ) (out copied joined : List Rectangle) → rects ≡ r ∷ rs
    → n ≡ first_length rects → top ≡ int_max row r.min_y → bottom ≡ r.max_y → start ≡ length out → copied ≡ out ++ run_rectangles top bottom (columns (take n rects))
    → joined ≡ joined_rects (joined_bottom (between last start copied) (drop start copied)) copied last start → joined ++ drop n rects ≡ with_rest rects row last out
unfolding with_rest
rest_made rects r rs n row top bottom last start out copied joined e f g h k l m =
    let f' : n ≡ first_length (r ∷ rs) = f ∙ ap first_length e in
    let l' : copied ≡ out ++ run_rectangles top bottom (columns (take n (r ∷ rs))) = l ∙ ap (λ w. out ++ run_rectangles top bottom (columns (take n w))) e in
    rw (e, m, l', k, g, h, f') refl

-- where one of two regions is left, kept or not
end_one : (row : ℤ) (due : ℤ → ℤ → Bool) (last : ℕ) (out : List Rectangle) → IsMade row (λ x y. int_lt y row && due x y) last out
    → (t : Bool) (rects : List Rectangle) (bs : List Band) → rects ≡ flat bs → AreBands bs → EndsRow row bs → ((x y : ℤ) → row ≤ℤ y → due x y ≡ cond t (in_bands bs x y) false)
    → (all : List Rectangle) → all ≡ cond t (with_rest rects row last out) out → IsCanonical all × ((x y : ℤ) → covers all x y ≡ due x y)
end_one row due last out s true rects bs f h k e all g = rw (g ∙ ap (λ w. with_rest w row last out) f) (finish row due last out s bs h k e)
end_one row due last out s false rects bs f h k e all g =
    rw (g ∙ (sym (rest_none row last out) ∙ ap (λ w. with_rest w row last out) (sym flat_nil)))
    (finish row due last out s [] tt tt (λ x y a. e x y a ∙ sym (in_bands_nil x y)))

-- where the sweep ends
pub sweep_end : (operation : Operation) (a₀ b₀ left_a left_b : List Rectangle) (row : ℤ) (last : ℕ) (out first all : List Rectangle) → SweepState operation a₀ b₀ left_a left_b row last out
    → (length left_a ≡ 0) ⊎ (length left_b ≡ 0) → first ≡ cond (holds operation true false) (with_rest left_a row last out) out
    → all ≡ cond (holds operation false true) (with_rest left_b row last first) first
    → IsCanonical all × ((x y : ℤ) → covers all x y ≡ holds operation (covers a₀ x y) (covers b₀ x y))
sweep_end operation a₀ b₀ left_a left_b row last out first all s (inl n) f g =
    let e = is_none left_a n in
    let o : first ≡ out = f ∙ rest_empty (holds operation true false) left_a row last out n in
    end_one row (λ x y. holds operation (covers a₀ x y) (covers b₀ x y)) last out s.made (holds operation false true) left_b s.bands_b s.is_b s.are_b s.ends_b
    (λ x y h. ap (λ w. holds operation w (covers b₀ x y)) (s.same_a x y h ∙ (sym (covers_flat s.bands_a x y) ∙ (ap (λ w. covers w x y) (sym s.is_a ∙ e) ∙ covers_nil x y)))
    ∙ (kept_second operation (holds operation false true) (covers b₀ x y) refl ∙ ap (λ w. cond (holds operation false true) w false) (s.same_b x y h)))
    all (g ∙ ap (λ w. cond (holds operation false true) (with_rest left_b row last w) w) o)
sweep_end operation a₀ b₀ left_a left_b row last out first all s (inr n) f g =
    let e = is_none left_b n in
    let o : all ≡ first = g ∙ rest_empty (holds operation false true) left_b row last first n in
    end_one row (λ x y. holds operation (covers a₀ x y) (covers b₀ x y)) last out s.made (holds operation true false) left_a s.bands_a s.is_a s.are_a s.ends_a
    (λ x y h. ap (λ w. holds operation (covers a₀ x y) w) (s.same_b x y h ∙ (sym (covers_flat s.bands_b x y) ∙ (ap (λ w. covers w x y) (sym s.is_b ∙ e) ∙ covers_nil x y)))
    ∙ (kept operation (holds operation true false) (covers a₀ x y) refl ∙ ap (λ w. cond (holds operation true false) w false) (s.same_a x y h)))
    all (o ∙ f)

-- the last band begins in the list also after what is left of the first operand
pub place_second : (t : Bool) (left_a left_b : List Rectangle) (row : ℤ) (last : ℕ) (out first : List Rectangle) → (length left_a ≡ 0) ⊎ (length left_b ≡ 0)
    → first ≡ cond t (with_rest left_a row last out) out → last ≤ length out → 0 < length left_b → last ≤ length first
place_second t left_a left_b row last out first (inl n) f h k = omega (arith, ap length (f ∙ rest_empty t left_a row last out n))
place_second t left_a left_b row last out first (inr n) f h k = absurd (omega arith)

-- the same row by other terms
pub row_of_terms : (operation : Operation) (a b : List Rectangle) (top bottom : ℤ) (before after : List Rectangle) (a' b' : List Rectangle) (top' bottom' : ℤ)
    → a' ≡ a → b' ≡ b → top' ≡ top → bottom' ≡ bottom → IsRowOf operation a b top bottom before after → IsRowOf operation a' b' top' bottom' before after
row_of_terms operation a b top bottom before after a' b' top' bottom' e f g h s = rw (e, f, g, h) s

-- the same state by other terms
pub sweep_move : (operation : Operation) (a₀ b₀ left_a left_b : List Rectangle) (row : ℤ) (last start start' : ℕ) (rects : List Rectangle) (left_a' left_b' : List Rectangle) (last' : ℕ) (out' : List Rectangle)
    → left_a' ≡ left_a → left_b' ≡ left_b → start' ≡ start
    → last' ≡ last_place (joined_bottom (between last start' rects) (drop start' rects)) rects last start'
    → out' ≡ joined_rects (joined_bottom (between last start' rects) (drop start' rects)) rects last start'
    → SweepState operation a₀ b₀ left_a left_b row (last_place (joined_bottom (between last start rects) (drop start rects)) rects last start)
    (joined_rects (joined_bottom (between last start rects) (drop start rects)) rects last start)
    → SweepState operation a₀ b₀ left_a' left_b' row last' out'
sweep_move operation a₀ b₀ left_a left_b row last start start' rects left_a' left_b' last' out' e f g h k s = rw (e, f, h, k, g) s

-- the state before the first step by other terms
pub start_move : (operation : Operation) (a₀ b₀ left_a left_b : List Rectangle) (row : ℤ) (last : ℕ) (out left_a' left_b' out' : List Rectangle)
    → left_a' ≡ left_a → left_b' ≡ left_b → out' ≡ out
    → SweepState operation a₀ b₀ left_a left_b row last out → SweepState operation a₀ b₀ left_a' left_b' row last out'
start_move operation a₀ b₀ left_a left_b row last out left_a' left_b' out' e f g s = rw (e, f, g) s
