use Rattle.std.proofs.Common.{refl}
use Rattle.lw_layer.proofs.layer.Layer.set_title.Goals as goal
use Rattle.lw_layer.proofs.WindowLaws.{window_changed}

pub invariant_of-self : goal.invariant_of-self
invariant_of-self c = window_changed c.self.inside.draft c.replace_title.new.window (λ w. record w { title = c.args.title }) c.replace_title.ensures.window (λ v. refl) c.self.invariant
