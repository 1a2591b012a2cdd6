-- Which pixels a layer with given bounds and visible rectangles keeps, at any place in layer coordinates (the manual's Layers
-- Library chapter: the damage list).
use Rattle.std.specs.Prelude.{◌≡◌, Bool, false, List, ℤ, ◌+ℤ◌}
use Rattle.lw_region.specs.Rectangle.{Rectangle, has_pixel}
use Rattle.lw_region.specs.Bands.{covers}
use Rattle.lw_calls.specs.declared.make.Kind.{Kind}
use Rattle.lw_calls.specs.declared.make.Kind.TheVariants.{Simple, Smart, SuperBitmap}

-- A layer with these bounds and these visible rectangles keeps its pixel at column x and row y: a simple layer where it shows it,
-- and a smart layer each. Of a super-bitmap layer no pixel is ever damaged, so none counts here.
abbrev pub keeps_pixel : Kind → Rectangle → List Rectangle → ℤ → ℤ → Bool
keeps_pixel Simple bounds visible x y = covers visible (bounds.min_x +ℤ x) (bounds.min_y +ℤ y)
keeps_pixel Smart bounds visible x y = has_pixel bounds (bounds.min_x +ℤ x) (bounds.min_y +ℤ y)
keeps_pixel SuperBitmap bounds visible x y = false

-- these rectangles have the pixels that such a layer keeps
abbrev pub AreKept : Kind → Rectangle → List Rectangle → List Rectangle → Type 0
AreKept kind bounds visible made = (x y : ℤ) → covers made x y ≡ keeps_pixel kind bounds visible x y
