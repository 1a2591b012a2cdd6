-- How many rectangles a layer is cut into by an arrangement.
use Rattle.std.specs.Prelude.{◌≡◌, ℕ, ◌≤◌, Some}
use Rattle.lw_region.specs.Rectangle.{Rectangle}
use Rattle.lw_machine.specs.Arrangement.{is_on_screen}
use Rattle.lw_bounds.specs.Cuts.{rectangle_count}
use Rattle.lw_bounds.specs.Fronts.{front_count, rectangle_limit}
use Rattle.lw_stack.specs.Stack.{bounds_at}
use Rattle.lw_arrange.specs.Arrangements.{ArrangementView, IsArrangement}
use Rattle.lw_arrange.specs.Prepared.{shown_at}

-- What is prepared and committed of a slot has few rectangles: where n layers are in front of its layer afterwards, at most
-- (2n + 3) (2n + 3), visible and hidden together, and at most (2n + 1) (2n + 1) where all of it lies on the screen.
abbrev pub ArrangedSlotsHaveFewRectangles : Type 0
ArrangedSlotsHaveFewRectangles =
    (a : ArrangementView) (s : ℕ) (own : Rectangle)
    → IsArrangement a → bounds_at a.stack.bounds s ≡ Some own
    → rectangle_count own (shown_at a s) ≤ rectangle_limit (is_on_screen a.stack.sizes own) (front_count s a.stack.front_to_back)
