-- For private contracts.
-- How the desktop's strips are sorted by an area, and what of the area is put in their place.
use Rattle.std.specs.Prelude.{◌≡◌, ◌⊎◌, ◌||◌, ◌&&◌, not, List, [], ◌∷◌, ◌++◌, ℤ, None}
use Rattle.std.specs.Option.{is_some}
use Rattle.lw_region.specs.Rectangle.{Rectangle, has_pixel}
use Rattle.lw_region.specs.Bands.{covers}
use Rattle.lw_strips.specs.Strips.{StripView, strip_of}
use Rattle.lw_stack.specs.Stack.{Stack, first_at, LieApart}

-- the strip lies apart from the area and stays, as one of pen 0, or the places near the area have its places too
abbrev pub IsSorted : List Rectangle → StripView → List StripView → List Rectangle → List StripView → List Rectangle → Type 0
IsSorted area s kept near new_kept new_near =
    (LieApart area s.rect × (new_kept ≡ kept ++ strip_of s.rect s.planes.depth None ∷ []) × (new_near ≡ near))
    ⊎ ((new_kept ≡ kept) × ((x y : ℤ) → covers new_near x y ≡ (covers near x y || has_pixel s.rect x y)))

-- these rectangles have the places of the area that no layer has
abbrev pub IsRestOf : Stack → List Rectangle → List Rectangle → Type 0
IsRestOf v area rest = (x y : ℤ) → covers rest x y ≡ (covers area x y && not (is_some (first_at v.bounds v.front_to_back x y)))
