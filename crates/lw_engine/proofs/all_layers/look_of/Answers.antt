use Rattle.std.proofs.Common.{subst, ◌∙◌}
use Rattle.lw_layer.specs.View.{CellView}
use Rattle.lw_engine.specs.Desks.{no_cell}
use Rattle.lw_engine.specs.Arranging.{IsTruth}
use Rattle.std.proofs.lemmas.List.{get_or_default}
use Rattle.lw_engine.proofs.ReadyLists.{truth_hooked}
use Rattle.lw_engine.proofs.all_layers.look_of.Goals as goal

pub returns : goal.returns
returns g c =
    let slots = c.args.slots.now in
    let one = c.index-slots-slot.result in
    let P : CellView → Type 0 = λ v. IsTruth v c.look.result in
    subst P (c.index-slots-slot.is ∙ get_or_default slots c.args.slot one no_cell c.requires)
    (truth_hooked one c.cell.result.now c.look.result c.cell.ensures c.look.ensures.look c.look.ensures.sound c.look.ensures.idle)
