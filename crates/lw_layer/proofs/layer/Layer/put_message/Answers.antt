use Rattle.std.proofs.Common.{◌++◌, ◌∷◌, [], refl}
use Rattle.lw_layer.proofs.layer.Layer.put_message.Goals as goal
use Rattle.lw_layer.proofs.WindowLaws.{window_changed}

pub invariant_of-self : goal.invariant_of-self
invariant_of-self c = window_changed c.self.inside.draft c.put_last.new.window (λ w. record w { port = w.port ++ c.args.message ∷ [] }) c.put_last.ensures.window (λ v. refl) c.self.invariant
