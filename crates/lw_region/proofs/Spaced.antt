-- A canonical list goes downwards and to the right: each rectangle is below those before it, or in the same rows with a free
-- column between.
use Rattle.std.proofs.Common.{◌≡◌, List, [], ◌∷◌, ◌++◌, ℤ, pos, ◌+ℤ◌, ◌≤ℤ◌, ◌<ℤ◌, sym, ◌∙◌, arith}
use Rattle.std.specs.List.{All, AllPairs}
use Rattle.std.proofs.lemmas.Int.{ints}
use Rattle.std.proofs.lemmas.List.Elements.{All-cons, All-append, All-map}
use Rattle.std.proofs.lemmas.List.Kept.{AllPairs-cons}
use Rattle.lw_region.specs.Rectangle.{Rectangle}
use Rattle.lw_region.specs.Pixels.{pixels_of}
use Rattle.lw_region.specs.Bands.{Run, Band, band_rectangles}
use Rattle.lw_region.specs.Banded.{IsCanonical, StartsAfter, AreRuns, AreBands, flat}
use Rattle.lw_region.proofs.Runs.{starts_after_less}
use Rattle.lw_region.proofs.Stacks.{StartsBelow, starts_below_less, above_starts}
use Rattle.lw_region.proofs.Canonical.{flat_nil, flat_cons, bands_flat, band_list, are_band_list}

-- s begins and ends no higher than r, and where it has a row of r, it is after r and a free column
pub record IsBehind (r s : Rectangle) : Type 0 where
  pub top : r.min_y ≤ℤ s.min_y
  pub bottom : r.max_y ≤ℤ s.max_y
  pub gap : s.min_y ≤ℤ r.max_y → ((r.max_x +ℤ pos 1) <ℤ s.min_x) × (s.min_x ≤ℤ s.max_x)

-- a run that begins after column x
abbrev BeginsAfter : ℤ → Run → Type 0
BeginsAfter x s = (x <ℤ s.first) × (s.first ≤ℤ s.last)

-- runs begin after a column where the first one does
all_after : (x : ℤ) (rs : List Run) → AreRuns rs → StartsAfter x rs → All (BeginsAfter x) rs
all_after x [] h k = λ i d l. absurd (omega arith)
all_after x (r ∷ rs) h k =
    let p = h.0 in
    All-cons (BeginsAfter x) r rs (k, p) (all_after x rs h.2 (starts_after_less x (r.last +ℤ pos 1) rs (omega (arith, ints)) h.1))

-- a rectangle that begins below row y
abbrev IsUnder : ℤ → Rectangle → Type 0
IsUnder y s = (y <ℤ s.min_y) × (s.min_y ≤ℤ s.max_y)

-- the rectangle of a run of columns in the rows top to bottom
abbrev run_rectangle : ℤ → ℤ → Run → Rectangle
run_rectangle top bottom r = record { min_x = r.first; min_y = top; max_x = r.last; max_y = bottom }

-- the rectangles of bands begin below a row where the first band does
all_under : (y : ℤ) (bs : List Band) → AreBands bs → StartsBelow y bs → All (IsUnder y) (flat bs)
all_under y [] h k = rw flat_nil (λ i d l. absurd (omega arith))
all_under y (b ∷ bs) h k =
    let p = h.0.rows in
    rw (flat_cons b bs)
    (All-append (IsUnder y) (band_rectangles b) (flat bs)
    (All-map (IsUnder y) (run_rectangle b.top b.bottom) b.runs (λ i d l. (k, p)))
    (all_under y bs h.2 (starts_below_less y b.bottom bs (omega (arith, ints)) (above_starts b bs h.1))))

-- the rectangles of a band before others that are below its rows
band_spaced : (top bottom : ℤ) (rs : List Run) (tail : List Rectangle) → top ≤ℤ bottom → AreRuns rs → All (IsUnder bottom) tail → AllPairs IsBehind tail
    → AllPairs IsBehind (band_rectangles (record { top = top; bottom = bottom; runs = rs }) ++ tail)
band_spaced top bottom [] tail p h k d = d
band_spaced top bottom (r ∷ rs) tail p h k d =
    let q = run_rectangle top bottom r in
    let others = band_rectangles (record { top = top; bottom = bottom; runs = rs }) in
    AllPairs-cons IsBehind q (others ++ tail)
    (All-append (IsBehind q) others tail
    (All-map (IsBehind q) (run_rectangle top bottom) rs (λ i e l.
    let a = all_after (r.last +ℤ pos 1) rs h.2 h.1 i e l in
    record { top = omega (arith, ints); bottom = omega (arith, ints); gap = λ _. a }))
    (λ i e l.
    let a = k i e l in
    record { top = omega (arith, ints); bottom = omega (arith, ints); gap = λ m. absurd (omega (arith, ints)) }))
    (band_spaced top bottom rs tail p h.2 k d)

-- the rectangles of bands
flat_spaced : (bs : List Band) → AreBands bs → AllPairs IsBehind (flat bs)
flat_spaced [] h = rw flat_nil (λ i j d l m. absurd (omega arith))
flat_spaced (b ∷ bs) h =
    rw (flat_cons b bs)
    (band_spaced b.top b.bottom b.runs (flat bs) h.0.rows h.0.runs (all_under b.bottom bs h.2 (above_starts b bs h.1)) (flat_spaced bs h.2))

-- each rectangle of a canonical list is after those before it
pub canonical_spaced : (rects : List Rectangle) → IsCanonical rects → AllPairs IsBehind rects
canonical_spaced rects h =
    let s = pixels_of rects in
    let e : flat (band_list s) ≡ rects = sym (bands_flat s) ∙ h in
    rw e at (flat_spaced (band_list s) (are_band_list s))
