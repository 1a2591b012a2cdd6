use Rattle.lw_layer.proofs.layer.Layer.begin_update.Goals as goal
use Rattle.lw_layer.proofs.UpdateLaws.{update_begun}

pub invariant_of-self : goal.invariant_of-self
invariant_of-self c = update_begun c.self.inside.draft c.begin.new.self c.begin.ensures c.self.invariant
