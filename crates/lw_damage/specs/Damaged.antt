-- The damage of a layer (the manual's Layers Library chapter: the damage list; that it lies in the inner rectangle alone
-- is this project's own).
use Rattle.std.specs.Prelude.{◌≡◌, Bool, false, ◌&&◌, if◌then◌else◌, Option, Some, None, List, [], ℤ}
use Rattle.lw_region.specs.Rectangle.{Rectangle, has_pixel}
use Rattle.lw_region.specs.Pixels.{pixels_of, union, intersection}
use Rattle.lw_region.specs.Bands.{bands, covers}
use Rattle.lw_region.specs.Regions.{rectangle_set}

-- the rectangle in which damage may lie, if there is one, the damaged pixels as rectangles, and whether an update is on
pub record Damaged : Type 0 where
  pub inner : Option Rectangle
  pub rects : List Rectangle
  pub updating : Bool

-- damage may lie on the pixel at column x and row y
abbrev pub may_lie : Option Rectangle → ℤ → ℤ → Bool
may_lie None x y = false
may_lie (Some r) x y = has_pixel r x y

-- the damaged pixels and those of these rectangles on which damage may lie
abbrev pub with_more : Option Rectangle → List Rectangle → List Rectangle → List Rectangle
with_more None rects more = rects
with_more (Some r) rects more = bands (union (pixels_of rects) (intersection (pixels_of more) (rectangle_set r)))

-- The damage has what of these rectangles lies where damage may lie, and an update is on or not.
pub record IsDamageWith (place : Option Rectangle) (due : List Rectangle) (on : Bool) (d : Damaged) : Type 0 where
  pub inner : d.inner ≡ place
  pub pixels : (x y : ℤ) → covers d.rects x y ≡ (covers due x y && may_lie place x y)
  pub updating : d.updating ≡ on

-- the damage after the update's end, which takes it away where the end is full
abbrev pub ended : Damaged → Bool → Damaged
ended d full = record d { rects = if full then [] else d.rects; updating = false }
