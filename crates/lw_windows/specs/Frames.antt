-- The frame of a window as four rectangles.
use Rattle.std.specs.Prelude.{◌≡◌, ℕ, ◌+◌, ◌-◌, ◌<◌, Bool, true, ◌&&◌, nat_lt, if◌then◌else◌, List, [], ◌∷◌, ℤ, pos}
use Rattle.std.specs.List.{list_any}
use Rattle.lw_region.specs.Rectangle.{Rectangle, has_pixel}
use Rattle.lw_machine.specs.Kept.{holds_at, in_inner}
use Rattle.lw_machine.specs.Reveal.{in_frame}

-- a window w wide and h high has the pixel
abbrev pub in_window : ℕ → ℕ → ℕ → ℕ → Bool
in_window w h x y = nat_lt x w && nat_lt y h

-- a rectangle with a pixel in its top left corner and one in its bottom right corner
abbrev pub from_to : ℕ → ℕ → ℕ → ℕ → Rectangle
from_to left top right bottom = record { min_x = pos left; min_y = pos top; max_x = pos right; max_y = pos bottom }

-- The top, left, right and bottom fill of a window w wide and h high: the top one is 11 rows high and goes over the whole
-- width, the left and the right one are 4 columns wide and go from there down to the last row, and between these the bottom
-- one is 2 rows high.
abbrev pub frame_fills : ℕ → ℕ → List Rectangle
frame_fills w h =
    from_to 0 0 (w - 1) 10
    ∷ from_to 0 11 3 (h - 1)
    ∷ from_to (w - 4) 11 (w - 1) (h - 1)
    ∷ from_to 4 (h - 2) (w - 5) (h - 1)
    ∷ []

-- 1 where it holds, and 0 elsewhere
abbrev pub as_number : Bool → ℕ
as_number holds = if holds then 1 else 0

-- how many of the rectangles have the pixel
abbrev pub how_many : List Rectangle → ℤ → ℤ → ℕ
how_many [] x y = 0
how_many (r ∷ rects) x y = as_number (has_pixel r x y) + how_many rects x y

-- of the pixels of a window the rectangles have those that the machine counts to its frame
abbrev pub AreFrame : ℕ → ℕ → List Rectangle → Type 0
AreFrame w h fills = (x y : ℕ) → x < w → y < h → list_any (λ r. has_pixel r (pos x) (pos y)) fills ≡ in_frame w h x y

-- each pixel of a framed window lies in one of the rectangles or in its inner rectangle, and any other pixel in none
abbrev pub LeaveInner : ℕ → ℕ → List Rectangle → Type 0
LeaveInner w h fills =
    (x y : ℤ) → how_many fills x y + as_number (holds_at (in_inner true w h) x y) ≡ as_number (holds_at (in_window w h) x y)
