use Rattle.lw_layer.proofs.layer.Layer.set_active.Goals as goal
use Rattle.lw_layer.proofs.WindowLaws.{active_replaced}

pub invariant_of-self : goal.invariant_of-self
invariant_of-self c = active_replaced c.self.inside.draft c.args.active c.self.invariant
