-- How many rectangles a layer of a desk has, by how many layers are in front of it.
use Rattle.std.specs.Prelude.{◌≡◌, ℕ, ◌≤◌, not, List, ℤ, Some}
use Rattle.lw_region.specs.Rectangle.{Rectangle}
use Rattle.lw_region.specs.Bands.{covers}
use Rattle.lw_region.specs.Banded.{IsCanonical}
use Rattle.lw_calls.specs.Limits.{may_leave_screen}
use Rattle.lw_machine.specs.Desk.{Desk}
use Rattle.lw_machine.specs.Screen.{is_shown}
use Rattle.lw_machine.specs.Sound.{IsDesk}
use Rattle.lw_bounds.specs.Cuts.{rectangle_count}
use Rattle.lw_bounds.specs.Fronts.{front_count, rectangle_limit}

-- A layer of a sound desk with n layers in front of it has at most (2n + 3) (2n + 3) rectangles, visible and hidden together,
-- where the visible ones are the canonical list of the places on which it is shown; and at most (2n + 1) (2n + 1) in version 1,
-- in which all of it lies on the screen.
abbrev pub RectanglesAreFew : Type 0
RectanglesAreFew =
    (d : Desk) (s : ℕ) (bounds : Rectangle) (visible : List Rectangle) → IsDesk d → d.bounds s ≡ Some bounds → IsCanonical visible
    → ((x y : ℤ) → is_shown d s x y ≡ covers visible x y)
    → rectangle_count bounds visible ≤ rectangle_limit (not (may_leave_screen d.sizes.version)) (front_count s d.front_to_back)
