-- Which layer is on top of a place, and what the screen shows (the manual's Layers Library chapter; how
-- a super-bitmap layer shows its bits is this project's own).
use Rattle.std.specs.Prelude.{ℕ, ◌+◌, Bool, false, if◌then◌else◌, List, ℤ, pos, ◌-ℤ◌, unsigned_abs, Option, Some, None}
use Rattle.std.specs.List.{find}
use Rattle.lw_region.specs.Rectangle.{Rectangle, has_pixel}
use Rattle.lw_planes.specs.Bitmap.{Bitmap, bitmap, pen_at}
use Rattle.lw_calls.specs.declared.sizes.Sizes.{Sizes}
use Rattle.lw_machine.specs.Layer.{Slot, Unopened, Live, Closed}
use Rattle.lw_machine.specs.Desk.{Desk, is_the}

-- these bounds have the place
abbrev pub bounds_have : Option Rectangle → ℤ → ℤ → Bool
bounds_have None x y = false
bounds_have (Some r) x y = has_pixel r x y

-- The screen's places: columns from 0 to the width less 1, and rows from 0 to the height less 1.
abbrev pub screen_bounds : Sizes → Rectangle
screen_bounds s = record { min_x = pos 0; min_y = pos 0; max_x = pos s.width -ℤ pos 1; max_y = pos s.height -ℤ pos 1 }

-- The slot of the first layer of a list, from the front, whose bounds have the place at column x and row y, if that is a place of
-- the screen. Elsewhere there is no top.
abbrev pub top_at : Sizes → (ℕ → Option Rectangle) → List ℕ → ℤ → ℤ → Option ℕ
top_at sizes bounds slots x y = if has_pixel (screen_bounds sizes) x y then find (λ s. bounds_have (bounds s) x y) slots else None

-- the top layer of a place of the desk
unfoldable pub top : Desk → ℤ → ℤ → Option ℕ
top d x y = top_at d.sizes d.bounds d.front_to_back x y

-- The layer in slot s is the top of the place: the screen shows a pixel of it there.
abbrev pub is_shown : Desk → ℕ → ℤ → ℤ → Bool
is_shown d s x y = is_the (top d x y) s

-- how far a place lies right of a left edge, or below a top edge, which is not past the place
abbrev pub distance : ℤ → ℤ → ℕ
distance edge place = unsigned_abs (place -ℤ edge)

-- The pen of the layer's pixel that lies on the place, for a layer with these bounds that have it: its top left corner
-- shows the layer pixel at its scroll.
abbrev pub pen_on : Option Rectangle → Slot → ℤ → ℤ → ℕ
pen_on (Some r) (Live l) x y = pen_at l.bits (distance r.min_x x + l.scroll_x) (distance r.min_y y + l.scroll_y)
pen_on (Some r) Unopened x y = 0
pen_on (Some r) Closed x y = 0
pen_on None s x y = 0

-- the pen of the top layer on the place, or pen 0 where there is no layer
abbrev pub pen_of_top : Desk → Option ℕ → ℤ → ℤ → ℕ
pen_of_top d None x y = 0
pen_of_top d (Some s) x y = pen_on (d.bounds s) (d.slot s) x y

-- What the screen shows: at each place the pen of the top layer's pixel there, or pen 0.
unfoldable pub screen : Desk → Bitmap
screen d = bitmap d.sizes.width d.sizes.height d.sizes.depth (λ x y. pen_of_top d (top d (pos x) (pos y)) (pos x) (pos y))
