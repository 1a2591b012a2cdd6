-- Lists of rectangles as the bands that they are made of.
use Rattle.std.proofs.Common.{◌≡◌, ◌+◌, Bool, true, false, cond, ◌&&◌, ◌||◌, List, [], ◌∷◌, ◌++◌, take, drop, length, ℤ, pos, ◌+ℤ◌, ◌≤ℤ◌, ◌<ℤ◌, refl, ap, sym, ◌∙◌, arith}
use Rattle.std.specs.Prelude.{int_lt, int_le}
use Rattle.std.specs.List.{prefix_len}
use Rattle.std.specs.Ordering.{int_eq}
use Rattle.std.proofs.lemmas.Int.{ints, by_lt_z}
use Rattle.std.proofs.lemmas.List.{take_at, drop_at}
use Rattle.std.proofs.lemmas.List.Folds.{list_any-append}
use Rattle.std.proofs.lemmas.Grind.{flat_map-append}
use Rattle.lw_region.specs.Rectangle.{Rectangle, within}
use Rattle.lw_region.specs.Bands.{Run, Band, band_rectangles, same_runs}
use Rattle.lw_region.specs.Banded.{in_runs, AreRuns, in_bands, IsBand, IsAbove, AreBands, flat}
use Rattle.lw_region.specs.Columns.{columns, run_rectangles}
use Rattle.lw_region.specs.Rows.{band_length, first_row, next_row, begun_band, from_row, same_columns}
use Rattle.lw_region.proofs.Numbers.{eq_true, eq_above, of_lt}
use Rattle.lw_region.proofs.Runs.{in_runs_nil}
use Rattle.lw_region.proofs.Columns.{le_true, le_false, le_lt_false}
use Rattle.lw_region.proofs.Stacks.{in_bands_nil, StartsBelow, starts_below_less, above_starts, none_over, in_top, in_below}
use Rattle.lw_region.proofs.Canonical.{flat_nil, flat_cons}

-- the rectangles of the first band, and those of the others
pub flat_first : (b : Band) (bs : List Band) → flat (b ∷ bs) ≡ run_rectangles b.top b.bottom b.runs ++ flat bs
unfolding run_rectangles
flat_first b bs = flat_cons b bs

-- the rectangles of two lists of bands
pub flat_append : (bs cs : List Band) → flat (bs ++ cs) ≡ flat bs ++ flat cs
unfolding flat
flat_append bs cs = flat_map-append band_rectangles bs cs

-- the columns of a band's rectangles are those of its runs
pub columns_of_runs : (top bottom : ℤ) (rs : List Run) → columns (run_rectangles top bottom rs) ≡ rs
unfolding run_rectangles
columns_of_runs top bottom [] = refl
columns_of_runs top bottom (r ∷ rs) = ap (λ w. r ∷ w) (columns_of_runs top bottom rs)

module _ (top bottom : ℤ) (tail : List Rectangle) where
  -- what is read of the first rectangle of a band
  first_row_app : (rs : List Run) → (rs ≡ [] → ⊥) → first_row (run_rectangles top bottom rs ++ tail) ≡ top
  unfolding first_row run_rectangles
  first_row_app [] n = absurd (n refl)
  first_row_app (r ∷ rs) n = refl

  -- the next change is that of the first band
  next_row_app : (rs : List Run) (y : ℤ) → (rs ≡ [] → ⊥) → next_row (run_rectangles top bottom rs ++ tail) y ≡ cond (int_lt y top) top (bottom +ℤ pos 1)
  unfolding next_row run_rectangles
  next_row_app [] y n = absurd (n refl)
  next_row_app (r ∷ rs) y n = refl

  -- the first band is counted where it has begun
  begun_app : (rs : List Run) (y : ℤ) → (rs ≡ [] → ⊥)
      → begun_band (run_rectangles top bottom rs ++ tail) y
      ≡ cond (int_le top y) (take (band_length top (run_rectangles top bottom rs ++ tail)) (run_rectangles top bottom rs ++ tail)) []
  unfolding begun_band run_rectangles
  begun_app [] y n = absurd (n refl)
  begun_app (r ∷ rs) y n = refl

  -- the first band is left out where it is over
  from_app : (rs : List Run) (y : ℤ) → (rs ≡ [] → ⊥)
      → from_row (run_rectangles top bottom rs ++ tail) y
      ≡ cond (int_lt bottom y) (drop (band_length top (run_rectangles top bottom rs ++ tail)) (run_rectangles top bottom rs ++ tail)) (run_rectangles top bottom rs ++ tail)
  unfolding from_row run_rectangles
  from_app [] y n = absurd (n refl)
  from_app (r ∷ rs) y n = refl

  -- all rectangles of a band have its top row
  length_app : (rs : List Run) → band_length top (run_rectangles top bottom rs ++ tail) ≡ length (run_rectangles top bottom rs) + band_length top tail
  unfolding band_length run_rectangles
  length_app [] = omega arith
  length_app (r ∷ rs) =
      ap (λ w. cond w (1 + prefix_len (λ s. int_eq s.min_y top) (run_rectangles top bottom rs ++ tail)) 0) (eq_true top top refl)
      ∙ (ap (λ w. 1 + w) (length_app rs) ∙ omega arith)

-- a rectangle with another top row is not counted
length_other_app : (y top bottom : ℤ) (tail : List Rectangle) (rs : List Run) → (rs ≡ [] → ⊥) → y <ℤ top → band_length y (run_rectangles top bottom rs ++ tail) ≡ 0
unfolding band_length run_rectangles
length_other_app y top bottom tail [] n h = absurd (n refl)
length_other_app y top bottom tail (r ∷ rs) n h =
    ap (λ w. cond w (1 + prefix_len (λ s. int_eq s.min_y y) (run_rectangles top bottom rs ++ tail)) 0) (eq_above top y h)

-- an empty list has no rectangle
length_none : (y : ℤ) → band_length y [] ≡ 0
unfolding band_length
length_none y = refl

-- no rectangle of a lower band has an upper row for its top
length_other : (y : ℤ) (bs : List Band) → AreBands bs → StartsBelow y bs → band_length y (flat bs) ≡ 0
length_other y [] h k = ap (λ w. band_length y w) flat_nil ∙ length_none y
length_other y (b ∷ bs) h k =
    ap (λ w. band_length y w) (flat_first b bs) ∙ length_other_app y b.top b.bottom (flat bs) b.runs h.0.some k

-- the first band's rectangles are counted
pub length_first : (b : Band) (bs : List Band) → AreBands (b ∷ bs)
    → length (run_rectangles b.top b.bottom b.runs) ≡ band_length b.top (run_rectangles b.top b.bottom b.runs ++ flat bs)
length_first b bs h =
    let p = h.0.rows in
    let n = length_app b.top b.bottom (flat bs) b.runs in
    let m = length_other b.top bs h.2 (starts_below_less b.top b.bottom bs p (above_starts b bs h.1)) in
    omega arith

-- where the first band begins
pub first_row_flat : (b : Band) (bs : List Band) → AreBands (b ∷ bs) → first_row (flat (b ∷ bs)) ≡ b.top
first_row_flat b bs h = ap first_row (flat_first b bs) ∙ first_row_app b.top b.bottom (flat bs) b.runs h.0.some

-- the next change of bands
pub next_row_flat : (b : Band) (bs : List Band) (y : ℤ) → AreBands (b ∷ bs) → next_row (flat (b ∷ bs)) y ≡ cond (int_lt y b.top) b.top (b.bottom +ℤ pos 1)
next_row_flat b bs y h = ap (λ w. next_row w y) (flat_first b bs) ∙ next_row_app b.top b.bottom (flat bs) b.runs y h.0.some

-- the rectangles of the first band, where it has begun
pub begun_flat : (b : Band) (bs : List Band) (y : ℤ) → AreBands (b ∷ bs)
    → begun_band (flat (b ∷ bs)) y ≡ cond (int_le b.top y) (run_rectangles b.top b.bottom b.runs) []
begun_flat b bs y h =
    ap (λ w. begun_band w y) (flat_first b bs)
    ∙ (begun_app b.top b.bottom (flat bs) b.runs y h.0.some
    ∙ ap (λ w. cond (int_le b.top y) w []) (take_at (run_rectangles b.top b.bottom b.runs) (flat bs) _ (length_first b bs h)))

-- the bands without the first one, where that ends above row y
pub from_bands : List Band → ℤ → List Band
from_bands [] y = []
from_bands (b ∷ bs) y = cond (int_lt b.bottom y) bs (b ∷ bs)

-- a function of a choice
cond_over : {A B : Type 0} (f : A → B) (t : Bool) (x y : A) → cond t (f x) (f y) ≡ f (cond t x y)
cond_over f true x y = refl
cond_over f false x y = refl

-- nothing is left of nothing
from_nil : (y : ℤ) → from_row [] y ≡ []
unfolding from_row
from_nil y = refl

-- what is left of the rectangles is that of the bands
pub from_flat : (bs : List Band) (y : ℤ) → AreBands bs → from_row (flat bs) y ≡ flat (from_bands bs y)
unfolding from_bands
from_flat [] y h = ap (λ w. from_row w y) flat_nil ∙ (from_nil y ∙ sym flat_nil)
from_flat (b ∷ bs) y h =
    ap (λ w. from_row w y) (flat_first b bs)
    ∙ (from_app b.top b.bottom (flat bs) b.runs y h.0.some
    ∙ (ap (λ w. cond (int_lt b.bottom y) w (run_rectangles b.top b.bottom b.runs ++ flat bs)) (drop_at (run_rectangles b.top b.bottom b.runs) (flat bs) _ (length_first b bs h))
    ∙ (ap (λ w. cond (int_lt b.bottom y) (flat bs) w) (sym (flat_first b bs)) ∙ cond_over flat (int_lt b.bottom y) bs (b ∷ bs))))

-- the first band, if there is one, does not end above row y
abbrev pub EndsRow : ℤ → List Band → Type 0
EndsRow y [] = Unit {0}
EndsRow y (b ∷ bs) = y ≤ℤ b.bottom

-- no band has begun where there is none
begun_nil : (y : ℤ) → begun_band [] y ≡ []
unfolding begun_band
begun_nil y = refl

-- up to the next change a row has the columns of the first band that has begun
pub until_next_row : (bs : List Band) (at x y : ℤ) → AreBands bs → EndsRow at bs → at ≤ℤ y → y <ℤ next_row (flat bs) at → in_bands bs x y ≡ in_runs (columns (begun_band (flat bs) at)) x
until_next_row [] at x y h k l m =
    in_bands_nil x y ∙ (sym (in_runs_nil x) ∙ ap (λ w. in_runs (columns w) x) (sym (ap (λ w. begun_band w at) flat_nil ∙ begun_nil at)))
until_next_row (b ∷ bs) at x y h k l m =
    let m' = rw (next_row_flat b bs at h) at m in
    by_lt_z at b.top
    (λ a.
    let n : y <ℤ b.top = rw (of_lt at b.top a) at m' in
    none_over (b ∷ bs) x y h n
    ∙ (sym (in_runs_nil x)
    ∙ ap (λ w. in_runs (columns w) x) (sym (begun_flat b bs at h ∙ ap (λ w. cond w (run_rectangles b.top b.bottom b.runs) []) (le_false b.top at a)))))
    (λ a.
    let n : y <ℤ (b.bottom +ℤ pos 1) = rw (le_lt_false at b.top a) at m' in
    in_top b bs x y h (omega (arith, ints)) (omega (arith, ints))
    ∙ (ap (λ w. in_runs w x) (sym (columns_of_runs b.top b.bottom b.runs))
    ∙ ap (λ w. in_runs (columns w) x) (sym (begun_flat b bs at h ∙ ap (λ w. cond w (run_rectangles b.top b.bottom b.runs) []) (le_true b.top at a)))))

-- the columns of the first band lie from left to right
begun_columns_step : (b : Band) (t : Bool) → AreRuns b.runs → AreRuns (columns (cond t (run_rectangles b.top b.bottom b.runs) []))
begun_columns_step b true h = rw (columns_of_runs b.top b.bottom b.runs) h
begun_columns_step b false h = tt

-- the columns of the first band lie from left to right
pub begun_columns : (bs : List Band) (at : ℤ) → AreBands bs → AreRuns (columns (begun_band (flat bs) at))
begun_columns [] at h = rw (ap (λ w. begun_band w at) flat_nil ∙ begun_nil at) tt
begun_columns (b ∷ bs) at h = rw (begun_flat b bs at h) (begun_columns_step b (int_le b.top at) h.0.runs)

-- the next change is further down
pub next_row_further : (b : Band) (bs : List Band) (at : ℤ) → AreBands (b ∷ bs) → EndsRow at (b ∷ bs) → at <ℤ next_row (flat (b ∷ bs)) at
next_row_further b bs at h k =
    let p = k in
    rw (next_row_flat b bs at h)
    (by_lt_z at b.top (λ a. rw (of_lt at b.top a) a) (λ a. rw (le_lt_false at b.top a) (omega (arith, ints))))

-- the next change is at most right below the first band
next_row_most : (b : Band) (bs : List Band) (at : ℤ) → AreBands (b ∷ bs) → next_row (flat (b ∷ bs)) at ≤ℤ (b.bottom +ℤ pos 1)
next_row_most b bs at h =
    let p = h.0.rows in
    rw (next_row_flat b bs at h)
    (by_lt_z at b.top (λ a. rw (of_lt at b.top a) (omega (arith, ints))) (λ a. rw (le_lt_false at b.top a) (omega (arith, ints))))

-- what is left of the bands is still ahead
pub record PassedRows (next : ℤ) (bs cs : List Band) : Type 0 where
  pub are : AreBands cs
  pub ends : EndsRow next cs
  pub same : (x y : ℤ) → next ≤ℤ y → in_bands bs x y ≡ in_bands cs x y

-- what begins below a row does not end above it
ends_row_after : (x y : ℤ) (bs : List Band) → AreBands bs → StartsBelow x bs → y ≤ℤ (x +ℤ pos 1) → EndsRow y bs
ends_row_after x y [] h k l = tt
ends_row_after x y (b ∷ bs) h k l = let p = h.0.rows in omega (arith, ints)

-- what a step leaves is still ahead
pub passed_rows : (bs : List Band) (at next : ℤ) → AreBands bs → next ≤ℤ next_row (flat bs) at → PassedRows next bs (from_bands bs next)
unfolding from_bands
passed_rows [] at next h k = record { are = tt; ends = tt; same = λ x y l. refl }
passed_rows (b ∷ bs) at next h k =
    by_lt_z b.bottom next
    (λ a.
    let m = next_row_most b bs at h in
    let n : next ≤ℤ (b.bottom +ℤ pos 1) = omega (arith, ints) in
    rw (of_lt b.bottom next a) (record {
      are = h.2;
      ends = ends_row_after b.bottom next bs h.2 (above_starts b bs h.1) n;
      same = λ x y l. in_below b bs x y (omega (arith, ints));
    }))
    (λ a. rw (le_lt_false b.bottom next a) (record { are = h; ends = a; same = λ x y l. refl }))

-- the test on columns is that on runs
pub same_columns_runs : (t u v w : ℤ) (rs ss : List Run) → same_columns (run_rectangles t u rs) (run_rectangles v w ss) ≡ same_runs rs ss
unfolding run_rectangles
same_columns_runs t u v w [] [] = refl
same_columns_runs t u v w [] (s ∷ ss) = refl
same_columns_runs t u v w (r ∷ rs) [] = refl
same_columns_runs t u v w (r ∷ rs) (s ∷ ss) =
    ap (λ z. (int_eq r.first s.first && int_eq r.last s.last) && z) (same_columns_runs t u v w rs ss)

-- each band ends above row y
abbrev pub EndAbove : ℤ → List Band → Type 0
EndAbove y [] = Unit {0}
EndAbove y (b ∷ bs) = (b.bottom <ℤ y) × EndAbove y bs

-- bands that end above a row end above a lower one
pub end_lower : (y z : ℤ) (bs : List Band) → y ≤ℤ z → EndAbove y bs → EndAbove z bs
end_lower y z [] h k = tt
end_lower y z (b ∷ bs) h k = let p = k.0 in (omega (arith, ints), end_lower y z bs h k.1)

-- a further band that ends in time
pub end_above_push : (y : ℤ) (n : Band) (bs : List Band) → EndAbove y bs → n.bottom <ℤ y → EndAbove y (bs ++ n ∷ [])
end_above_push y n [] h k = (k, tt)
end_above_push y n (b ∷ bs) h k = (h.0, end_above_push y n bs h.1 k)

-- the bands without the last one end in time too
pub end_above_init : (y : ℤ) (l : Band) (bs : List Band) → EndAbove y (bs ++ l ∷ []) → EndAbove y bs
end_above_init y l [] h = tt
end_above_init y l (b ∷ bs) h = (h.0, end_above_init y l bs h.1)

-- the last band ends in time
pub end_above_last : (y : ℤ) (l : Band) (bs : List Band) → EndAbove y (bs ++ l ∷ []) → l.bottom <ℤ y
end_above_last y l [] h = h.0
end_above_last y l (b ∷ bs) h = end_above_last y l bs h.1

-- below the bands no row is in them
pub below_all : (bs : List Band) (x y z : ℤ) → EndAbove z bs → z ≤ℤ y → in_bands bs x y ≡ false
below_all [] x y z h k = in_bands_nil x y
below_all (b ∷ bs) x y z h k =
    let p = h.0 in in_below b bs x y (omega (arith, ints)) ∙ below_all bs x y z h.1 k

-- a pixel of either list of bands
pub in_bands_append : (bs cs : List Band) (x y : ℤ) → in_bands (bs ++ cs) x y ≡ (in_bands bs x y || in_bands cs x y)
unfolding in_bands
in_bands_append bs cs x y = list_any-append (λ b. within b.top y b.bottom && in_runs b.runs x) bs cs

-- a further band changes nothing at the first one
above_grown : (u l n : Band) (us : List Band) → IsAbove u (us ++ l ∷ []) → IsAbove u (us ++ l ∷ n ∷ [])
above_grown u l n [] h = h
above_grown u l n (v ∷ us) h = h

-- a further band below the last one
pub bands_push : (l n : Band) (us : List Band) → AreBands (us ++ l ∷ []) → IsAbove l (n ∷ []) → IsBand n → AreBands (us ++ l ∷ n ∷ [])
bands_push l n [] h k m = (h.0, k, (m, tt, tt))
bands_push l n (u ∷ us) h k m = (h.0, above_grown u l n us h.1, bands_push l n us h.2 k m)

-- the last band may reach further down
above_taller_last : (u l m : Band) (us : List Band) → l.top ≡ m.top → l.runs ≡ m.runs → IsAbove u (us ++ l ∷ []) → IsAbove u (us ++ m ∷ [])
above_taller_last u l m [] e f h = let p = h.0 in (omega (arith, ints), λ a g. h.1 (a ∙ sym e) (g ∙ sym f))
above_taller_last u l m (v ∷ us) e f h = h

-- the last band reaching further down
pub bands_taller : (l m : Band) (us : List Band) → l.top ≡ m.top → l.runs ≡ m.runs → IsBand m → AreBands (us ++ l ∷ []) → AreBands (us ++ m ∷ [])
bands_taller l m [] e f k h = (k, tt, tt)
bands_taller l m (u ∷ us) e f k h = (h.0, above_taller_last u l m us e f h.1, bands_taller l m us e f k h.2)
