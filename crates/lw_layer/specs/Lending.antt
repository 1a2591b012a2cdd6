-- What becomes of a cell once its layer that it lent is given back, and of a layer once lines that it lent are.
use Rattle.std.specs.Prelude.{ℕ, List, Option}
use Rattle.std.specs.Borrow.{Lends, LendsIf, MutBor, Fml, Array, u8}
use Rattle.lw_layer.specs.View.{LiveView, CellView, with_live}
use Rattle.lw_layer.specs.Pieces.{with_bytes}
use Rattle.lw_layer.specs.declared.state.CellState.{CellState}
use Rattle.lw_layer.specs.declared.state.CellState.TheVariants.{Live}
use Rattle.lw_layer.specs.contracts.cell.Cell.{the_row as cell_row}
use Rattle.lw_layer.specs.contracts.state.CellState.{the_row as state_row}
use Rattle.lw_layer.specs.contracts.layer.Layer.{the_row as layer_row}

-- the layer lends bytes of a plane of a buffer from a line on, and afterwards has there what these bytes then hold
abbrev pub LendsLines : MutBor LiveView → ℕ → ℕ → ℕ → MutBor (List ℕ) → Fml
LendsLines live plane n line row = Lends layer_row (Array u8 0) live row (with_bytes live.now plane n line)

-- a cell whose slot is live lends its layer, and afterwards has what that then is; any other cell stays as it is
abbrev pub LendsLayer : MutBor CellView → Option (MutBor LiveView) → Fml
LendsLayer cell layer = LendsIf cell_row layer_row cell layer (λ c. with_live (λ _. c) cell.now) cell.now

-- the same of what a cell holds, for private contracts
abbrev pub LendsLive : MutBor CellState → Option (MutBor LiveView) → Fml
LendsLive state layer = LendsIf state_row layer_row state layer Live state.now
