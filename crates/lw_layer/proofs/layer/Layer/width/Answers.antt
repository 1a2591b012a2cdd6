use Rattle.lw_layer.proofs.BitsLaws.{layer_bits}
use Rattle.lw_layer.proofs.layer.Layer.width.Goals as goal

pub returns-clause-bits : goal.returns-clause-bits
returns-clause-bits c = layer_bits c.self.inside.draft c.args.self.now c.self.invariant c.self.view_is
