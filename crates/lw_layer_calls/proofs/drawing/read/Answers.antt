use Rattle.std.proofs.Common.{sym, ap, to_z-of_z}
use Rattle.lw_layer_calls.proofs.OneLayerLaws.{read_reply, read_step}
use Rattle.lw_layer_calls.proofs.drawing.read.Goals as goal

pub returns-in-None : goal.returns-in-None
returns-in-None c =
    λ slot.
    read_step slot c.args.layer.now c.args.x c.args.y _ _ c.read_pixel.result _ (to_z-of_z c.ranges.x) (to_z-of_z c.ranges.y) c.read_pixel.ensures (sym (ap read_reply c.in-None.is))

pub returns-in-Some : goal.returns-in-Some
returns-in-Some c =
    λ slot.
    read_step slot c.args.layer.now c.args.x c.args.y _ _ c.read_pixel.result _ (to_z-of_z c.ranges.x) (to_z-of_z c.ranges.y) c.read_pixel.ensures (sym (ap read_reply c.in-Some.is))
