use Rattle.std.proofs.Common.{refl}
use Rattle.lw_machine.specs.Step.{after_first}
use Rattle.lw_layer.proofs.layer.Layer.take_message.Goals as goal
use Rattle.lw_layer.proofs.WindowLaws.{window_changed}

pub invariant_of-self : goal.invariant_of-self
invariant_of-self c = window_changed c.self.inside.draft c.take_oldest.new.window (λ w. record w { port = after_first w.port }) c.take_oldest.ensures.window (λ v. refl) c.self.invariant
