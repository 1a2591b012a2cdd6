use Rattle.lw_gen.specs.Demo.{demo_calls}
use Rattle.lw_gen.proofs.Listed.{one_seen}
use Rattle.lw_gen.proofs.plan.call_lists.Goals as goal

pub loop-task-preserved : goal.loop-task-preserved
loop-task-preserved c =
    one_seen (demo_calls c.args.number c.args.tasks) c.loop-task.task
    (λ calls. calls.items) c.loop-task.lists.items c.push.new.self.items c.in_ok-calls_of.field-0
    c.loop-task.invariant c.in_ok-calls_of.ensures c.in_ok-push.ensures.items
