use Rattle.std.proofs.Common.{◌∙◌}
use Rattle.lw_gen.specs.Demo.{task_name}
use Rattle.lw_gen.proofs.Listed.{one_more}
use Rattle.lw_gen.proofs.plan.task_names.Goals as goal

pub loop-task-preserved : goal.loop-task-preserved
loop-task-preserved c =
    one_more task_name c.loop-task.task c.loop-task.names.items c.push.new.self.items c.new.result c.loop-task.invariant
    (c.new.ensures ∙ c.in_ok-task_name.ensures) c.in_ok-push.ensures.items
