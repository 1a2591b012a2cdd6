-- What a display shows: in each row the pens of its owner (the manual's Intuition Screens chapter).
use Rattle.std.specs.Prelude.{◌≡◌, ℕ, ◌-◌, ◌<◌, max, List, [], ◌∷◌, length, Option, Some, None}
use Rattle.std.specs.List.{slice_index_or}
use Rattle.lw_planes.specs.Bitmap.{Bitmap, bitmap, pen_at}
use Rattle.lw_screens.specs.Display.{Display, screen_of, owner_of}

-- of these bitmaps the one of a number; one without pixels where there is none
abbrev pub bitmap_of : List Bitmap → ℕ → Bitmap
bitmap_of planes k = slice_index_or planes k (record { width = 0; height = 0; depth = 0; rows = [] })

-- the pen at column x and row y of the display where this is the row's owner: the pen that the owner's bitmap has there, and 0
-- where the bitmap isn't as wide, and without an owner
abbrev pub pen_of_owner : Display → List Bitmap → Option ℕ → ℕ → ℕ → ℕ
pen_of_owner d planes None x y = 0
pen_of_owner d planes (Some k) x y = pen_at (bitmap_of planes k) x (y - (screen_of d.screens k).top)

-- the pen at column x and row y of the display whose screens have these bitmaps by their numbers
abbrev pub display_pen : Display → List Bitmap → ℕ → ℕ → ℕ
display_pen d planes x y = pen_of_owner d planes (owner_of d y) x y

-- the greatest depth of these bitmaps
abbrev pub greatest_depth : List Bitmap → ℕ
greatest_depth [] = 0
greatest_depth (b ∷ bs) = max b.depth (greatest_depth bs)

-- what the display of this width shows
abbrev pub composed : ℕ → Display → List Bitmap → Bitmap
composed width d planes = bitmap width d.height (greatest_depth planes) (display_pen d planes)

-- there is a bitmap for each screen, of its height
pub record HavePlanes (d : Display) (planes : List Bitmap) : Type 0 where
  pub each : length planes ≡ length d.screens
  pub heights : (k : ℕ) → k < length d.screens → (bitmap_of planes k).height ≡ (screen_of d.screens k).height
