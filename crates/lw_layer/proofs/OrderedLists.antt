-- The rectangles of a canonical list are ordered.
use Rattle.std.proofs.Common.{◌≡◌, List, [], ◌∷◌, ℤ, ◌≤ℤ◌, sym, ◌∙◌, arith}
use Rattle.std.specs.List.{All}
use Rattle.std.proofs.lemmas.List.Elements.{All-cons, All-append}
use Rattle.lw_region.specs.Rectangle.{Rectangle, IsOrdered}
use Rattle.lw_region.specs.Pixels.{pixels_of}
use Rattle.lw_region.specs.Bands.{Run, Band, band_rectangles}
use Rattle.lw_region.specs.Banded.{IsCanonical, AreRuns, AreBands, flat}
use Rattle.lw_region.proofs.Canonical.{flat_nil, flat_cons, bands_flat, band_list, are_band_list}

runs_ordered : (top bottom : ℤ) (rs : List Run) → top ≤ℤ bottom → AreRuns rs → All IsOrdered (band_rectangles (record { top = top; bottom = bottom; runs = rs }))
runs_ordered top bottom [] rows are = λ i d l. absurd (omega arith)
runs_ordered top bottom (r ∷ rs) rows are =
    All-cons IsOrdered (record { min_x = r.first; min_y = top; max_x = r.last; max_y = bottom }) (band_rectangles (record { top = top; bottom = bottom; runs = rs }))
    (record { columns = are.0; rows = rows }) (runs_ordered top bottom rs rows are.2)

flat_ordered : (bs : List Band) → AreBands bs → All IsOrdered (flat bs)
flat_ordered [] are = rw flat_nil (λ i d l. absurd (omega arith))
flat_ordered (b ∷ bs) are =
    rw (flat_cons b bs) (All-append IsOrdered (band_rectangles b) (flat bs) (runs_ordered b.top b.bottom b.runs are.0.rows are.0.runs) (flat_ordered bs are.2))

pub canonical_ordered : (rects : List Rectangle) → IsCanonical rects → All IsOrdered rects
canonical_ordered rects is =
    let s = pixels_of rects in
    let e : flat (band_list s) ≡ rects = sym (bands_flat s) ∙ is in
    rw e at (flat_ordered (band_list s) (are_band_list s))
