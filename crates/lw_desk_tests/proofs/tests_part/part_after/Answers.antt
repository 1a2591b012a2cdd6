use Rattle.std.proofs.Common.{List, sym, subst}
use Rattle.lw_layer.specs.View.{CellView}
use Rattle.lw_engine.specs.Layers.{AreLayers}
use Rattle.lw_engine.proofs.LayerLaws.{layers_of_desk}
use Rattle.lw_desk_tests.proofs.tests_part.part_after.Goals as goal

pub screen_part-requires-clause-desk : goal.screen_part-requires-clause-desk
screen_part-requires-clause-desk c =
    let engine = c.new-engine.result in
    let made = c.in_ok-info.ensures {u = tt} in
    let info = c.in_ok-info.field-0.info in
    let P : List CellView → Type 0 = λ q. AreLayers engine.sizes engine.assets.now info q made.0 in
    (made.0, layers_of_desk engine.sizes engine.assets.now info c.as_slice.result.now made.0 (subst P (sym c.as_slice.ensures.value) made.1.layers))
