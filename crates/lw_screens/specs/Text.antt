-- The text of a display: its sizes, its bands, what it shows, and `done` (docs/FORMATS.md).
use Rattle.std.specs.Prelude.{ℕ, ◌-◌, List, [], ◌++◌, ◌∷◌, length, codes, Option, Some, None}
use Rattle.std.specs.List.{flat_map, slice_index_or}
use Rattle.lw_planes.specs.Bitmap.{Bitmap}
use Rattle.lw_calls.specs.Written.{line_of, spaced}
use Rattle.lw_machine.specs.Report.{planes_part}
use Rattle.lw_screens.specs.Display.{Display, screen_of}
use Rattle.lw_screens.specs.Bands.{bands_of}
use Rattle.lw_screens.specs.Composed.{composed}
use Rattle.lw_screens.specs.declared.bands.Band.{Band}

-- the line of a display's sizes and of how many bands it has
abbrev pub sizes_line : ℕ → Display → List ℕ
sizes_line width d = line_of (codes "display" ++ spaced width ++ spaced d.height ++ spaced (length (bands_of d)))

-- whose rows these are: the screen's name, and which of its rows the first one is
abbrev pub owner_words : List (List ℕ) → Display → ℕ → Option ℕ → List ℕ
owner_words names d y None = codes " blank"
owner_words names d y (Some k) = 32 ∷ slice_index_or names k [] ++ spaced (y - (screen_of d.screens k).top)

-- the line of a band
abbrev pub band_line : List (List ℕ) → Display → Band → List ℕ
band_line names d b = line_of (codes "rows" ++ spaced b.first ++ spaced b.last ++ owner_words names d b.first b.screen)

-- The text of a display of this width whose screens have these names and bitmaps by their numbers.
abbrev pub display_text : ℕ → List (List ℕ) → Display → List Bitmap → List ℕ
display_text width names d planes =
    sizes_line width d
    ++ flat_map (band_line names d) (bands_of d)
    ++ planes_part (composed width d planes)
    ++ line_of (codes "done")
