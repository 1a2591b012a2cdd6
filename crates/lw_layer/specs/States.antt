-- What a cell holds, as contracts see it.
use Rattle.lw_layer.specs.View.{State, LiveView}
use Rattle.lw_layer.specs.View as view
use Rattle.lw_layer.specs.Drafts.{no_layer}
use Rattle.lw_layer.specs.declared.state.CellState.{CellState}
use Rattle.lw_layer.specs.declared.state.CellState.TheVariants.{Unopened, Closed, Live}

-- whether the slot's layer was not created so far, is live, or was deleted
abbrev pub state_in : CellState → State
state_in Unopened = view.Unopened
state_in Closed = view.Closed
state_in (Live c) = view.Live

-- the live layer, and one without any pixel where the slot isn't live
abbrev pub live_in : CellState → LiveView
live_in Unopened = no_layer
live_in Closed = no_layer
live_in (Live c) = c
