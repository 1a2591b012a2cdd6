use Rattle.std.proofs.Common.{true, refl}
use Rattle.lw_layer.proofs.layer.Layer.ask_refresh.Goals as goal
use Rattle.lw_layer.proofs.WindowLaws.{window_changed}

pub invariant_of-self : goal.invariant_of-self
invariant_of-self c = window_changed c.self.inside.draft c.set_asked.new.window (λ w. record w { asked = true }) c.set_asked.ensures.window (λ v. refl) c.self.invariant
