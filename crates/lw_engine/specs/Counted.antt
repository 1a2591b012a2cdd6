-- How many rectangles the layers of a desk are cut into.
use Rattle.std.specs.Prelude.{◌≡◌, ℕ, ◌<◌, ◌≤◌, List}
use Rattle.lw_region.specs.Banded.{IsCanonical}
use Rattle.lw_machine.specs.Desk.{Desk}
use Rattle.lw_machine.specs.Arrangement.{is_on_screen}
use Rattle.lw_bounds.specs.Cuts.{rectangle_count}
use Rattle.lw_bounds.specs.Fronts.{front_count, rectangle_limit}
use Rattle.lw_layer.specs.View.{CellView}
use Rattle.lw_layer.specs.View as view
use Rattle.lw_stack.specs.Stack.{Stack}
use Rattle.lw_engine.specs.Desks.{cell_at, AreOfDesk}

-- Cells that stand for the slots of a desk with LayerInfo have few rectangles: a live one with n layers in front of it at most
-- (2n + 3) (2n + 3), visible and hidden together, and at most (2n + 1) (2n + 1) where all of it lies on the screen. (The visible
-- rectangles of a cell are always a canonical list.)
abbrev pub CellsHaveFewRectangles : Type 0
CellsHaveFewRectangles =
    (v : Stack) (cells : List CellView) (d : Desk) (s : ℕ)
    → AreOfDesk v cells d → s < v.sizes.slots → (cell_at cells s).state ≡ view.Live → IsCanonical (cell_at cells s).live.visible
    → rectangle_count (cell_at cells s).live.bounds (cell_at cells s).live.visible
    ≤ rectangle_limit (is_on_screen v.sizes (cell_at cells s).live.bounds) (front_count s v.front_to_back)
