-- The area of a polygon with a pattern: its pixels, its rectangles, and what a call answers that counts these.
use Rattle.std.specs.Prelude.{◌≡◌, ℕ, ◌<◌, ◌≤◌, Bool, ◌&&◌, List, [], ◌∷◌, length, ℤ}
use Rattle.std.specs.List.{filter}
use Rattle.lw_region.specs.Rectangle.{Rectangle}
use Rattle.lw_region.specs.Pixels.{Pixel, contains_pixel}
use Rattle.lw_region.specs.Regions.{rectangle_set}
use Rattle.lw_region.specs.Bands.{bands}
use Rattle.lw_area.specs.declared.point.Point.{Point}
use Rattle.lw_area.specs.declared.spans.Spans.{Spans}
use Rattle.lw_area.specs.declared.spans.Spans.TheVariants.{Rects, TooMany}
use Rattle.lw_area.specs.Polygons.{is_inside, box_of}
use Rattle.lw_area.specs.Patterns.{pattern_has}

-- a pixel is in the area: it is inside the polygon, and its bit of the pattern is 1
abbrev pub is_in_area : List Point → List ℕ → ℤ → ℤ → Bool
is_in_area points words x y = is_inside points x y && pattern_has words x y

-- the area's set: its pixels, which all lie in the box of the points
unfoldable pub area_set : List Point → List ℕ → List Pixel
area_set [] words = []
area_set (p ∷ ps) words = filter (λ v. is_in_area (p ∷ ps) words v.x v.y) (rectangle_set (box_of p ps))

-- the rectangles of an area
abbrev pub area_rectangles : List Point → List ℕ → List Rectangle
area_rectangles points words = bands (area_set points words)

-- the rectangles of an area where they are at most as many as the limit, and else that they are too many
abbrev pub AreSpans : List Point → List ℕ → ℕ → Spans → Type 0
AreSpans points words limit (Rects rects) = (rects.items ≡ area_rectangles points words) × (length rects.items ≤ limit)
AreSpans points words limit TooMany = limit < length (area_rectangles points words)

-- an area's set has the pixels of the area, no pixel of which is outside the box
abbrev pub AreaHasItsPixels : Type 0
AreaHasItsPixels =
    (points : List Point) (words : List ℕ) (x y : ℤ) → contains_pixel (area_set points words) x y ≡ is_in_area points words x y
