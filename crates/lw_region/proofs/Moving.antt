-- Rectangles, and canonical lists of them, that are moved.
use Rattle.std.proofs.Common.{◌≡◌, true, ◌&&◌, List, [], ◌∷◌, ◌++◌, map, ℤ, pos, ◌+ℤ◌, ◌-ℤ◌, ◌∙◌, refl, sym, ap, arith}
use Rattle.std.proofs.lemmas.Int.{ints, by_lt_z}
use Rattle.std.proofs.lemmas.List.{map-append}
use Rattle.lw_region.specs.Rectangle.{Rectangle, within, has_pixel, IsOrdered, moved_by, IsWord, HasWords}
use Rattle.lw_region.specs.Bands.{Run, Band, band_rectangles, covers}
use Rattle.lw_region.specs.Banded.{IsCanonical, StartsAfter, AreRuns, IsBand, IsAbove, AreBands, flat}
use Rattle.lw_region.specs.Regions.{MovedListLaw, moved_list}
use Rattle.lw_region.proofs.Lists.{any_agree, any_map}
use Rattle.lw_region.proofs.Within.{within_true, within_below, within_above}
use Rattle.lw_region.proofs.Meet.{corner_in}
use Rattle.lw_region.proofs.Runs.{same_run}
use Rattle.lw_region.proofs.Canonical.{flat_nil, flat_cons}
use Rattle.lw_region.proofs.SetOps.{canonical_is_banded}

-- a place between moved edges is moved between the edges
within_moved : (low high by z : ℤ) → within (low +ℤ by) z (high +ℤ by) ≡ within low (z -ℤ by) high
within_moved low high by z =
    by_lt_z z (low +ℤ by)
    (λ a. within_below (low +ℤ by) z (high +ℤ by) a ∙ sym (within_below low (z -ℤ by) high (omega (arith, ints))))
    (λ a. by_lt_z (high +ℤ by) z
    (λ b. within_above (low +ℤ by) z (high +ℤ by) b ∙ sym (within_above low (z -ℤ by) high (omega (arith, ints))))
    (λ b. within_true (low +ℤ by) z (high +ℤ by) a b ∙ sym (within_true low (z -ℤ by) high (omega (arith, ints)) (omega (arith, ints)))))

-- a moved rectangle has the pixels of the rectangle, moved
pub has_moved : (r : Rectangle) (dx dy x y : ℤ) → has_pixel (moved_by r dx dy) x y ≡ has_pixel r (x -ℤ dx) (y -ℤ dy)
has_moved r dx dy x y =
    ap (λ w. w && within (r.min_y +ℤ dy) y (r.max_y +ℤ dy)) (within_moved r.min_x r.max_x dx x)
    ∙ ap (λ w. within r.min_x (x -ℤ dx) r.max_x && w) (within_moved r.min_y r.max_y dy y)

-- an ordered rectangle has its bottom right pixel
pub last_in : (r : Rectangle) → IsOrdered r → has_pixel r r.max_x r.max_y ≡ true
last_in r h =
    let columns = within_true r.min_x r.max_x r.max_x h.columns (omega (arith, ints)) in
    let rows = within_true r.min_y r.max_y r.max_y h.rows (omega (arith, ints)) in
    rw (columns, rows)

-- a moved rectangle has words for its bounds where its pixels have
pub words_moved : (r : Rectangle) (dx dy : ℤ) → IsOrdered r
    → ((x y : ℤ) → has_pixel r x y ≡ true → IsWord (x +ℤ dx) × IsWord (y +ℤ dy)) → HasWords (moved_by r dx dy)
words_moved r dx dy ordered near =
    let first = near r.min_x r.min_y (corner_in r ordered) in
    let last = near r.max_x r.max_y (last_in r ordered) in
    record { left = first.0; top = first.1; right = last.0; bottom = last.1 }

-- a moved list has the pixels of the list, moved
covers_moved : (rects : List Rectangle) (dx dy x y : ℤ) → covers (moved_list rects dx dy) x y ≡ covers rects (x -ℤ dx) (y -ℤ dy)
unfolding covers
covers_moved rects dx dy x y =
    any_map (λ q. has_pixel q x y) (λ r. moved_by r dx dy) rects
    ∙ any_agree (λ r. has_pixel (moved_by r dx dy) x y) (λ r. has_pixel r (x -ℤ dx) (y -ℤ dy)) (λ r. has_moved r dx dy x y) rects

-- a run moved by dx columns to the right
abbrev run_moved : ℤ → Run → Run
run_moved dx r = record { first = r.first +ℤ dx; last = r.last +ℤ dx }

-- a band moved by dx columns to the right and dy rows down
abbrev band_moved : ℤ → ℤ → Band → Band
band_moved dx dy b = record { top = b.top +ℤ dy; bottom = b.bottom +ℤ dy; runs = map (run_moved dx) b.runs }

-- the rectangles of a band that is moved
rectangles_moved : (dx dy top bottom : ℤ) (rs : List Run)
    → moved_list (band_rectangles (record { top = top; bottom = bottom; runs = rs })) dx dy
    ≡ band_rectangles (band_moved dx dy (record { top = top; bottom = bottom; runs = rs }))
rectangles_moved dx dy top bottom [] = refl
rectangles_moved dx dy top bottom (r ∷ rs) =
    ap (λ w. moved_by (record { min_x = r.first; min_y = top; max_x = r.last; max_y = bottom }) dx dy ∷ w) (rectangles_moved dx dy top bottom rs)

-- the rectangles of bands that are moved
flat_moved : (dx dy : ℤ) (bs : List Band) → flat (map (band_moved dx dy) bs) ≡ moved_list (flat bs) dx dy
flat_moved dx dy [] = flat_nil ∙ sym (ap (λ l. moved_list l dx dy) flat_nil)
flat_moved dx dy (b ∷ bs) =
    flat_cons (band_moved dx dy b) (map (band_moved dx dy) bs)
    ∙ (ap (λ w. w ++ flat (map (band_moved dx dy) bs)) (sym (rectangles_moved dx dy b.top b.bottom b.runs))
    ∙ (ap (λ w. moved_list (band_rectangles b) dx dy ++ w) (flat_moved dx dy bs)
    ∙ (sym (map-append (λ r. moved_by r dx dy) (band_rectangles b) (flat bs)) ∙ ap (λ l. moved_list l dx dy) (sym (flat_cons b bs)))))

-- runs that begin after a column, moved with it
starts_moved : (dx x : ℤ) (rs : List Run) → StartsAfter (x +ℤ pos 1) rs → StartsAfter ((x +ℤ dx) +ℤ pos 1) (map (run_moved dx) rs)
starts_moved dx x [] h = tt
starts_moved dx x (r ∷ rs) h = omega (arith, ints)

-- moved runs are runs
runs_moved : (dx : ℤ) (rs : List Run) → AreRuns rs → AreRuns (map (run_moved dx) rs)
runs_moved dx [] h = tt
runs_moved dx (r ∷ rs) h =
    let p = h.0 in (omega (arith, ints), starts_moved dx r.last rs h.1, runs_moved dx rs h.2)

-- places that are one after they were moved were one before
same_place : (by a b : ℤ) → (a +ℤ by) ≡ (b +ℤ by) → a ≡ b
same_place by a b e = omega (arith, ints)

-- runs that are alike after they were moved were alike before
same_moved : (dx : ℤ) (rs ss : List Run) → map (run_moved dx) rs ≡ map (run_moved dx) ss → rs ≡ ss
same_moved dx [] [] e = refl
same_moved dx [] (s ∷ ss) e = absurd cc
same_moved dx (r ∷ rs) [] e = absurd cc
same_moved dx (r ∷ rs) (s ∷ ss) e =
    let here : run_moved dx r ≡ run_moved dx s = cc in
    let rest : map (run_moved dx) rs ≡ map (run_moved dx) ss = cc in
    let one = same_run r s (same_place dx _ _ (ap (λ (q : Run). q.first) here)) (same_place dx _ _ (ap (λ (q : Run). q.last) here)) in
    ap (λ q. q ∷ rs) one ∙ ap (λ w. s ∷ w) (same_moved dx rs ss rest)

-- a moved band is a band
band_stays : (dx dy : ℤ) (b : Band) → IsBand b → IsBand (band_moved dx dy b)
band_stays dx dy b h =
    let p = h.rows in
    record { rows = omega (arith, ints); some = λ e. h.some (same_moved dx b.runs [] e); runs = runs_moved dx b.runs h.runs }

-- bands that are moved together stay one above the other
above_moved : (dx dy : ℤ) (b : Band) (bs : List Band) → IsAbove b bs → IsAbove (band_moved dx dy b) (map (band_moved dx dy) bs)
above_moved dx dy b [] h = tt
above_moved dx dy b (c ∷ cs) h =
    let p = h.0 in (omega (arith, ints), λ next same. h.1 (omega (arith, ints)) (same_moved dx b.runs c.runs same))

-- moved bands are bands
bands_moved : (dx dy : ℤ) (bs : List Band) → AreBands bs → AreBands (map (band_moved dx dy) bs)
bands_moved dx dy [] h = tt
bands_moved dx dy (b ∷ bs) h = (band_stays dx dy b h.0, above_moved dx dy b bs h.1, bands_moved dx dy bs h.2)

-- a canonical list stays canonical when it is moved
pub canonical_moved : (rects : List Rectangle) (dx dy : ℤ) → IsCanonical rects → IsCanonical (moved_list rects dx dy)
canonical_moved rects dx dy h =
    let banded = (canonical_is_banded rects).0 h in
    (canonical_is_banded (moved_list rects dx dy)).1 (record {
      bands = map (band_moved dx dy) banded.bands;
      are = bands_moved dx dy banded.bands banded.are;
      rectangles = flat_moved dx dy banded.bands ∙ ap (λ l. moved_list l dx dy) banded.rectangles;
    })

-- the pixels of a moved list, and that it is canonical where the list is
pub moved_lists : MovedListLaw
moved_lists = (covers_moved, canonical_moved)
