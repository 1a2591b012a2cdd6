use Rattle.lw_layer.proofs.layer.Layer.set_clip.Goals as goal
use Rattle.lw_layer.proofs.SetLaws.{clip_replaced}

pub invariant_of-self : goal.invariant_of-self
invariant_of-self c = clip_replaced c.self.inside.draft c.replace.new.dest c.self.invariant
