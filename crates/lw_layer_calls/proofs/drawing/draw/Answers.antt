use Rattle.std.proofs.Common.{ℤ, to_z, of_z, w16, ◌∙◌, refl, ap, to_z-of_z}
use Rattle.lw_calls.specs.declared.call.Call.TheVariants.{DrawTo}
use Rattle.lw_machine.specs.Shapes.{draw_line}
use Rattle.lw_layer.specs.View.{LiveView, shows, with_layer}
use Rattle.lw_layer_calls.proofs.OneLayerLaws.{drawn_step}
use Rattle.lw_layer_calls.proofs.drawing.draw.Goals as goal

pub returns : goal.returns
returns c =
    let live = c.args.layer.now in
    let drawn : ℤ → ℤ → LiveView = λ u v. with_layer (λ l. draw_line (λ i j. shows live i j) u v l) live in
    λ slot d task part.
    drawn_step d task slot (DrawTo slot c.args.x c.args.y) _ live c.line.new.layer (λ visible. draw_line visible c.args.x c.args.y) refl part refl refl refl
    (c.line.ensures ∙ (ap (λ u. drawn u (to_z w16 (of_z w16 c.args.y))) (to_z-of_z c.ranges.x) ∙ ap (λ v. drawn c.args.x v) (to_z-of_z c.ranges.y)))
