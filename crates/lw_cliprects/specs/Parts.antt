-- The clip rectangles of a layer: its bounds as visible and hidden rectangles (the manual's Layers Library chapter: the
-- `ClipRect` structure; that the hidden ones are bands too is this project's own).
use Rattle.std.specs.Prelude.{◌≡◌, true, ◌||◌, List, [], ◌∷◌, ◌++◌, ℤ, pos}
use Rattle.std.specs.List.{AllPairs}
use Rattle.lw_region.specs.Rectangle.{Rectangle, has_pixel, AreApart}
use Rattle.lw_region.specs.Pixels.{pixels_of, difference}
use Rattle.lw_region.specs.Bands.{bands, covers}
use Rattle.lw_region.specs.Regions.{rectangle_set, rectangle}

-- the bounds of a layer on the screen, and the rectangles of them that are visible
pub record Division : Type 0 where
  pub bounds : Rectangle
  pub visible : List Rectangle

-- what the visible rectangles leave of the bounds, in bands
unfoldable pub hidden_of : Rectangle → List Rectangle → List Rectangle
hidden_of bounds visible = bands (difference (rectangle_set bounds) (pixels_of visible))

-- each pixel of the rectangles is in the bounds
abbrev pub LieIn : Rectangle → List Rectangle → Type 0
LieIn bounds rects = (x y : ℤ) → covers rects x y ≡ true → has_pixel bounds x y ≡ true

-- No two of the rectangles, visible and hidden together, have a pixel in common, so each is wholly visible or wholly
-- hidden; and together they have exactly the pixels of the bounds.
pub record AreDivided (bounds : Rectangle) (visible hidden : List Rectangle) : Type 0 where
  pub apart : AllPairs AreApart (visible ++ hidden)
  pub cover : (x y : ℤ) → (covers visible x y || covers hidden x y) ≡ has_pixel bounds x y

-- A worked example: the bounds 0 0 7 3 under one cover 3 1 4 2 leave four visible rectangles, and these leave the cover hidden.
abbrev pub one_bounds : Rectangle
one_bounds = rectangle (pos 0) (pos 0) (pos 7) (pos 3)

abbrev pub one_cover : Rectangle
one_cover = rectangle (pos 3) (pos 1) (pos 4) (pos 2)

abbrev pub one_visible : List Rectangle
one_visible =
    rectangle (pos 0) (pos 0) (pos 7) (pos 0) ∷ rectangle (pos 0) (pos 1) (pos 2) (pos 2)
    ∷ rectangle (pos 5) (pos 1) (pos 7) (pos 2)
    ∷ rectangle (pos 0) (pos 3) (pos 7) (pos 3) ∷ []

pub record OneCover : Type 0 where
  pub visible : bands (difference (rectangle_set one_bounds) (rectangle_set one_cover)) ≡ one_visible
  pub hidden : hidden_of one_bounds one_visible ≡ one_cover ∷ []
