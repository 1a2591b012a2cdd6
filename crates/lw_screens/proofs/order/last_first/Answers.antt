use Rattle.lw_screens.proofs.Changes.{last_more}
use Rattle.lw_screens.proofs.order.last_first.Goals as goal

pub loop-number-preserved : goal.loop-number-preserved
loop-number-preserved c =
    last_more c.loop-number.number c.loop-number.order.items c.push.new.self.items _ c.loop-number-test.true c.loop-number.invariant c.in_ok-push.ensures.items
