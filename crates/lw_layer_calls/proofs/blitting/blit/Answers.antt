use Rattle.lw_layer_calls.proofs.BlittingLaws.{within_step}
use Rattle.lw_layer_calls.proofs.blitting.blit.Goals as goal

pub returns : goal.returns
returns c = λ slot. within_step slot c.args.layer.now c.within.new.layer c.args.area.now c.within.ensures
