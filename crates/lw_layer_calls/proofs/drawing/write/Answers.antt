use Rattle.std.proofs.Common.{sym, ap, if◌then◌else◌, to_z-of_z}
use Rattle.lw_calls.specs.declared.reply.Reply.TheVariants.{Done, Outside}
use Rattle.lw_layer_calls.proofs.OneLayerLaws.{write_step}
use Rattle.lw_layer_calls.proofs.drawing.write.Goals as goal

pub returns-then-not-write_pixel : goal.returns-then-not-write_pixel
returns-then-not-write_pixel c =
    λ slot.
    write_step slot c.args.layer.now c.write_pixel.new.layer c.args.x c.args.y _ _ c.write_pixel.result _ (to_z-of_z c.ranges.x) (to_z-of_z c.ranges.y) c.write_pixel.ensures.answer c.write_pixel.ensures.layer (sym (ap (λ t. if t then Done else Outside) c.if-not-write_pixel.true))

pub returns : goal.returns
returns c =
    λ slot.
    write_step slot c.args.layer.now c.write_pixel.new.layer c.args.x c.args.y _ _ c.write_pixel.result _ (to_z-of_z c.ranges.x) (to_z-of_z c.ranges.y) c.write_pixel.ensures.answer c.write_pixel.ensures.layer (sym (ap (λ t. if t then Done else Outside) c.if-not-write_pixel.false))
