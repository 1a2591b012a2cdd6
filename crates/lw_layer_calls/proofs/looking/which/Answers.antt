use Rattle.std.proofs.Common.{to_z-of_z}
use Rattle.lw_layer_calls.proofs.LookingLaws.{which_reply}
use Rattle.lw_layer_calls.proofs.looking.which.Goals as goal

pub returns : goal.returns
returns c =
    let a = c.args in
    which_reply a.info.now c.answer.result c.which.result a.x a.y _ _ (to_z-of_z c.ranges.x) (to_z-of_z c.ranges.y) c.which.ensures c.answer.ensures
