use Rattle.std.proofs.Common.{refl}
use Rattle.lw_calls.specs.declared.call.Call.TheVariants.{Fill}
use Rattle.lw_machine.specs.Shapes.{rect_fill}
use Rattle.lw_layer_calls.proofs.OneLayerLaws.{drawn_step}
use Rattle.lw_layer_calls.proofs.drawing.fill.Goals as goal

pub returns : goal.returns
returns c =
    λ slot d task part.
    drawn_step d task slot (Fill slot c.args.rect.now) _ c.args.layer.now c.fill.new.layer (λ visible. rect_fill visible c.args.rect.now) refl part refl refl refl c.fill.ensures
