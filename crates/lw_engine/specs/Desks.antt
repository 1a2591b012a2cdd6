-- Which desks LayerInfo, the cells and the shelf of hooks stand for.
use Rattle.std.specs.Prelude.{◌≡◌, ℕ, ◌<◌, List, map, length, Option, None}
use Rattle.std.specs.List.{slice_index_or}
use Rattle.lw_machine.specs.Hook.{Hook}
use Rattle.lw_machine.specs.Desk.{Desk}
use Rattle.lw_machine.specs.Parts.{slot_part, info_part}
use Rattle.lw_machine.specs.Sound.{IsDesk}
use Rattle.lw_layer.specs.View.{CellView}
use Rattle.lw_layer.specs.View as view
use Rattle.lw_layer.specs.Drafts.{no_layer}
use Rattle.lw_layer.specs.Windows.{without_room}
use Rattle.lw_layer.specs.StandsFor.{StandsFor}
use Rattle.lw_stack.specs.Stack.{Stack, StandsForInfo}

-- the cell of a slot that wasn't opened so far
abbrev pub unopened_cell : ℕ → CellView
unopened_cell s = record { number = s; state = view.Unopened; live = no_layer }

-- where there is no cell of a slot
abbrev pub no_cell : CellView
no_cell = unopened_cell 0

-- the cell of a slot
abbrev pub cell_at : List CellView → ℕ → CellView
cell_at cells s = slice_index_or cells s no_cell

-- There is a cell for each slot, in rising number.
pub record AreNumbered (slots : ℕ) (cells : List CellView) : Type 0 where
  pub many : length cells ≡ slots
  pub numbers : (s : ℕ) → s < slots → (cell_at cells s).number ≡ s

-- LayerInfo and the cells of all slots, with the hooks of their layers, stand for the parts of a sound desk.
pub record AreOfDesk (v : Stack) (cells : List CellView) (d : Desk) : Type 0 where
  pub sound : IsDesk d
  pub sizes : d.sizes ≡ v.sizes
  pub info : StandsForInfo v (info_part d)
  pub slots : (s : ℕ) → s < v.sizes.slots → StandsFor (cell_at cells s) (slot_part d s)

-- the cells are as before, whatever room their ports have
abbrev pub AreAsBefore : List CellView → List CellView → Type 0
AreAsBefore old new = map without_room new ≡ map without_room old

-- the hook of a number on the shelf, if it is there
abbrev pub hook_at : List (Option Hook) → ℕ → Option Hook
hook_at shelf n = slice_index_or shelf n None

-- the desk has these hooks on its shelf, by their numbers
abbrev pub AreOnShelf : List (Option Hook) → Desk → Type 0
AreOnShelf shelf d = (n : ℕ) → d.shelf n ≡ hook_at shelf n
