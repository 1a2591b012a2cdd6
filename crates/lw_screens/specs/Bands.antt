-- The bands of a display: the longest runs of rows with one owner, from the top.
use Rattle.std.specs.Prelude.{◌≡◌, ℕ, zero, suc, ◌==◌, Bool, true, false, if◌then◌else◌, List, [], ◌∷◌, Option, Some, None}
use Rattle.lw_screens.specs.Display.{Display, IsDisplay, owner_of}
use Rattle.lw_screens.specs.declared.bands.Band.{Band}

-- two rows have one owner, or none of them has one
abbrev pub is_same : Option ℕ → Option ℕ → Bool
is_same None None = true
is_same None (Some k) = false
is_same (Some j) None = false
is_same (Some j) (Some k) = j == k

-- row y above the bands of the rows below it: in the first of them where the owner is the same, and else in a band of its own
abbrev pub row_above : ℕ → Option ℕ → List Band → List Band
row_above y owner [] = record { first = y; last = y; screen = owner } ∷ []
row_above y owner (b ∷ bs) =
    if is_same owner b.screen
    then record { first = y; last = b.last; screen = b.screen } ∷ bs
    else record { first = y; last = y; screen = owner } ∷ b ∷ bs

-- the bands of n rows from row y on
abbrev pub bands_from : (ℕ → Option ℕ) → ℕ → ℕ → List Band
bands_from owner y zero = []
bands_from owner y (suc n) = row_above y (owner y) (bands_from owner (suc y) n)

-- the bands of a display
abbrev pub bands_of : Display → List Band
bands_of d = bands_from (owner_of d) 0 d.height

-- What a display that keeps its bands has: it is one, and the bands are its own.
pub record IsKept (d : Display) (kept : List Band) : Type 0 where
  pub display : IsDisplay d
  pub bands : kept ≡ bands_of d
