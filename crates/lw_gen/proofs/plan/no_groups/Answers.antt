use Rattle.std.proofs.Common.{[]}
use Rattle.lw_gen.proofs.Listed.{one_seen}
use Rattle.lw_gen.proofs.plan.no_groups.Goals as goal

pub loop-preserved : goal.loop-preserved
loop-preserved c =
    one_seen (λ task. []) c.loop.counter (λ groups. groups.items) c.loop.lists.items c.push.new.self.items c.new.result
    c.loop.invariant c.new.ensures.items c.in_ok-push.ensures.items
