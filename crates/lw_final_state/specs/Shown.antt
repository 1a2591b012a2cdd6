-- What a run leaves of one cell: what is seen of it, by the list of layers.
use Rattle.std.specs.Prelude.{ℕ, List, pos, Option, Some, None}
use Rattle.lw_region.specs.Pixels.{Pixel}
use Rattle.lw_region.specs.Rectangle.{Rectangle}
use Rattle.lw_region.specs.Bands.{bands}
use Rattle.lw_calls.specs.declared.last.Seen.{Seen}
use Rattle.lw_machine.specs.Finals.{pixels_where, damage_set, port_of}
use Rattle.lw_layer.specs.View.{State, Unopened, Live, Closed, LiveView, CellView}
use Rattle.lw_stack.specs.Stack.{Stack, is_top_in}

-- the places of the screen on which a slot's layer is on top
unfoldable pub top_set : Stack → ℕ → List Pixel
top_set v s = pixels_where v.sizes.width v.sizes.height (λ x y. is_top_in v s (pos x) (pos y))

-- what is seen of a live layer that is visible there, and nothing of a slot that isn't live
abbrev pub seen_as : State → List Rectangle → LiveView → Option Seen
seen_as Unopened visible c = None
seen_as Live visible c =
    Some (record { visible = visible; damage = bands (damage_set c.layer); messages = port_of c.layer.window })
seen_as Closed visible c = None

-- what is seen of a cell
abbrev pub seen_in : Stack → CellView → Option Seen
seen_in v c = seen_as c.state (bands (top_set v c.number)) c.live
