-- LayerInfo as the engine keeps it, and which parts of a desk it, the slots and the registers stand for.
use Rattle.std.specs.Prelude.{◌≡◌, ℕ, List, Option, Some}
use Rattle.std.specs.List.{slice_get}
use Rattle.lw_region.specs.Rectangle.{Rectangle}
use Rattle.lw_calls.specs.Assets.{Assets}
use Rattle.lw_calls.specs.declared.sizes.Sizes.{Sizes}
use Rattle.lw_machine.specs.Hook.{Hook}
use Rattle.lw_machine.specs.Desk.{Desk}
use Rattle.lw_machine.specs.Parts.{InfoPart}
use Rattle.lw_layer.specs.View.{CellView}
use Rattle.lw_layer.specs.StandsFor.{StandsFor}
use Rattle.lw_stack.specs.Stack.{Stack, StandsForInfo}
use Rattle.lw_layer_calls.specs.Registers.{StandForRegisters}
use Rattle.lw_engine_trait.specs.Steps.{Relations, AreParts}
use Rattle.lw_engine.specs.Desks.{hook_at}

-- The list of layers with the sizes, and the hooks that no call took, by their numbers.
pub record InfoView : Type 0 where
  pub stack : Stack
  pub shelf : List (Option Hook)

-- It stands for LayerInfo's part of a desk with these sizes.
pub record IsInfo (all_sizes : Sizes) (i : InfoView) (p : InfoPart) : Type 0 where
  pub sizes : i.stack.sizes ≡ all_sizes
  pub info : StandsForInfo i.stack p
  pub hooks : (n : ℕ) → p.shelf n ≡ hook_at i.shelf n

-- which values of this engine stand for which parts
abbrev pub layer_relations : Relations InfoView CellView (List (List Rectangle))
layer_relations = record { number = λ c. c.number; regs_is = StandForRegisters; cell_is = StandsFor; info_is = IsInfo }

-- LayerInfo and the cells of all slots stand for their parts of a sound desk with these sizes and assets.
abbrev pub AreLayers : Sizes → Assets → InfoView → List CellView → Desk → Type 0
AreLayers sizes assets i cells d = AreParts layer_relations sizes assets i cells d

-- each task's registers stand for theirs
abbrev pub AreRegisters : List (List (List Rectangle)) → Desk → Type 0
AreRegisters all d = (t : ℕ) (regs : List (List Rectangle)) → slice_get all t ≡ Some regs → StandForRegisters regs (d.registers t)
