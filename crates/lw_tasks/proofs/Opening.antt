-- The parts that a run of a plan begins with.
use Rattle.std.proofs.Common.{◌≡◌, List, length, subst}
use Rattle.lw_region.specs.Rectangle.{Rectangle}
use Rattle.lw_calls.specs.Assets.{Assets}
use Rattle.lw_calls.specs.declared.sizes.Sizes.{Sizes}
use Rattle.lw_calls.specs.Plan.{Plan}
use Rattle.lw_machine.specs.Desk.{Desk, empty_desk, shelf_of}
use Rattle.lw_machine.specs.Finals.{opening_desk}
use Rattle.lw_machine.specs.Hook.{Hook}
use Rattle.lw_layer.specs.View.{CellView}
use Rattle.lw_engine.specs.Layers.{InfoView, layer_relations, AreLayers, AreRegisters}
use Rattle.lw_runs.specs.Standing.{StandForDesk}

-- which desks an engine's parts on layers stand for
abbrev pub Standing : Sizes → Assets → InfoView → List CellView → List (List (List Rectangle)) → Desk → Type 0
Standing sizes assets info cells registers = StandForDesk layer_relations sizes assets info cells registers

-- they stand for the plan's desk before its first call
pub plan_opened : (plan : Plan) (hooks : List Hook) (sizes : Sizes) (assets : Assets) (info : InfoView) (cells : List CellView) (registers : List (List (List Rectangle)))
    → sizes ≡ plan.sizes → assets ≡ plan.assets → AreLayers sizes assets info cells (empty_desk sizes assets (shelf_of hooks))
    → AreRegisters registers (empty_desk sizes assets (shelf_of hooks)) → length registers ≡ sizes.tasks → Standing sizes assets info cells registers (opening_desk plan hooks)
plan_opened plan hooks sizes assets info cells registers of_plan handed layers each many =
    let P : Sizes → Type 0 = λ s. Standing sizes assets info cells registers (empty_desk s assets (shelf_of hooks)) in
    let Q : Assets → Type 0 = λ a. Standing sizes assets info cells registers (empty_desk plan.sizes a (shelf_of hooks)) in
    subst Q handed (subst P of_plan (record { layers = layers; tasks = many; registers = each }))
