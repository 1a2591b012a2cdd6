use Rattle.std.proofs.Common.{ap}
use Rattle.lw_machine.specs.Layer.{is_framed}
use Rattle.lw_layer.proofs.layer.Layer.reserve.Goals as goal
use Rattle.lw_layer.proofs.WindowLaws.{window_replaced}

pub invariant_of-self : goal.invariant_of-self
invariant_of-self c = window_replaced c.self.inside.draft c.reserve_room.new.window (ap is_framed c.reserve_room.ensures.window) c.self.invariant
