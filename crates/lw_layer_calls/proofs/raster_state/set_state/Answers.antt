use Rattle.std.proofs.Common.{◌∙◌, ap}
use Rattle.lw_machine.specs.Layer.{Raster}
use Rattle.lw_layer.specs.View.{LiveView, with_layer}
use Rattle.lw_layer_calls.specs.Open.{raster_after}
use Rattle.lw_layer_calls.proofs.OneLayerLaws.{set_step}
use Rattle.lw_layer_calls.proofs.raster_state.set_state.Goals as goal

pub returns : goal.returns
returns c =
    let made : Raster → LiveView = λ q. with_layer (λ l. record l { raster = q }) c.args.layer.now in
    λ slot class.
    set_step slot c.args.call.now c.args.layer.now c.set_raster.new.self c.requires.sets class
    (c.set_raster.ensures ∙ ap made (c.change.ensures.value ∙ ap (raster_after c.args.call.now) c.raster-raster.ensures.value))
