-- Whether an arrangement fills a pixel of a window's frame (the manual's Intuition Windows chapter; that the frame is painted
-- again then is this project's own).
use Rattle.std.specs.Prelude.{◌≡◌, Bool, true, false, ◌&&◌, List, ℤ}
use Rattle.lw_region.specs.Rectangle.{Rectangle, has_pixel, width, height}
use Rattle.lw_region.specs.Bands.{covers}
use Rattle.lw_damage.specs.Damaged.{may_lie}
use Rattle.lw_layer.specs.Pieces.{inner_of}

-- the place lies in the inner rectangle of a framed window with these bounds, in layer coordinates
abbrev pub lies_inside : Rectangle → ℤ → ℤ → Bool
lies_inside bounds x y = may_lie (inner_of false true (width bounds) (height bounds)) x y

-- The answer is whether a window with these bounds has a frame and some of these pixels lies outside its inner rectangle.
pub record IsFrameGained (rects : List Rectangle) (framed : Bool) (bounds : Rectangle) (answer : Bool) : Type 0 where
  pub frameless : framed ≡ false → answer ≡ false
  pub some : answer ≡ true → (x : ℤ) × (y : ℤ) × (covers rects x y ≡ true) × (lies_inside bounds x y ≡ false)
  pub none : framed ≡ true → answer ≡ false → (x y : ℤ) → covers rects x y ≡ true → lies_inside bounds x y ≡ true

-- the first rectangle has the first and the last pixel of the second one
abbrev pub has_corners : Rectangle → Rectangle → Bool
has_corners r s = has_pixel r s.min_x s.min_y && has_pixel r s.max_x s.max_y
