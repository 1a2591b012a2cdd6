use Rattle.lw_gen.specs.Demo.{layer_names}
use Rattle.lw_gen.proofs.Listed.{some_more}
use Rattle.lw_gen.proofs.plan.slot_names.Goals as goal

pub loop-task-preserved : goal.loop-task-preserved
loop-task-preserved c =
    some_more layer_names c.loop-task.task c.loop-task.names.items c.push_layer_names.new.names.items c.loop-task.invariant
    c.in_ok-push_layer_names.ensures
