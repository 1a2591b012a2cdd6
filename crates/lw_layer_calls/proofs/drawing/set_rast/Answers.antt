use Rattle.std.proofs.Common.{refl}
use Rattle.lw_calls.specs.declared.call.Call.TheVariants.{SetRast}
use Rattle.lw_machine.specs.Shapes.{set_rast}
use Rattle.lw_layer_calls.proofs.OneLayerLaws.{drawn_step}
use Rattle.lw_layer_calls.proofs.drawing.set_rast.Goals as goal

pub returns : goal.returns
returns c =
    λ slot d task part.
    drawn_step d task slot (SetRast slot c.args.pen) _ c.args.layer.now c.set_rast.new.layer (λ visible. set_rast visible c.args.pen) refl part refl refl refl c.set_rast.ensures
