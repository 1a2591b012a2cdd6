-- What makes a list of rectangles canonical, run by run and band by band.
use Rattle.std.specs.Prelude.{◌≡◌, Bool, ◌&&◌, List, [], ◌∷◌, ℤ, pos, ◌+ℤ◌, ◌<ℤ◌, ◌≤ℤ◌}
use Rattle.std.specs.List.{list_any, flat_map}
use Rattle.lw_region.specs.Rectangle.{Rectangle, within}
use Rattle.lw_region.specs.Pixels.{pixels_of}
use Rattle.lw_region.specs.Bands.{Run, Band, band_rectangles, bands}

-- the list is the bands of its own pixels
abbrev pub IsCanonical : List Rectangle → Type 0
IsCanonical rects = bands (pixels_of rects) ≡ rects

-- some run has column x
unfoldable pub in_runs : List Run → ℤ → Bool
in_runs rs x = list_any (λ r. within r.first x r.last) rs

-- the first of these runs, if there is one, begins after column x
abbrev pub StartsAfter : ℤ → List Run → Type 0
StartsAfter x [] = Unit {0}
StartsAfter x (r ∷ rs) = x <ℤ r.first

-- runs from left to right, no two of which touch or overlap
abbrev pub AreRuns : List Run → Type 0
AreRuns [] = Unit {0}
AreRuns (r ∷ rs) = (r.first ≤ℤ r.last) × StartsAfter (r.last +ℤ pos 1) rs × AreRuns rs

-- some band has the pixel at column x and row y
unfoldable pub in_bands : List Band → ℤ → ℤ → Bool
in_bands bs x y = list_any (λ b. within b.top y b.bottom && in_runs b.runs x) bs

-- a band has some row and some run
pub record IsBand (b : Band) : Type 0 where
  pub rows : b.top ≤ℤ b.bottom
  pub some : b.runs ≡ [] → ⊥
  pub runs : AreRuns b.runs

-- the first of these bands, if there is one, is below band b, and where it is adjacent it has other runs
abbrev pub IsAbove : Band → List Band → Type 0
IsAbove b [] = Unit {0}
IsAbove b (c ∷ cs) = (b.bottom <ℤ c.top) × (b.bottom +ℤ pos 1 ≡ c.top → b.runs ≡ c.runs → ⊥)

-- bands from top to bottom, no two adjacent ones with equal runs
abbrev pub AreBands : List Band → Type 0
AreBands [] = Unit {0}
AreBands (b ∷ bs) = IsBand b × IsAbove b bs × AreBands bs

-- the rectangles of these bands
unfoldable pub flat : List Band → List Rectangle
flat bs = flat_map band_rectangles bs

-- the list is the rectangles of such bands, band by band downwards and run by run to the right
pub record IsBanded (rects : List Rectangle) : Type 0 where
  pub bands : List Band
  pub are : AreBands bands
  pub rectangles : flat bands ≡ rects
