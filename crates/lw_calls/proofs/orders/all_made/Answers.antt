use Rattle.std.proofs.Common.{rules, ◌==◌, sym, ap, ◌∙◌, length}
use Rattle.std.proofs.lemmas.Bool.{eq-eqb, ne_eqb}
use Rattle.std.specs.List.{slice_index_or}
use Rattle.lw_calls.specs.Plan.{task_calls}
use Rattle.lw_calls.specs.Code.OrderState.{no_progress}
use Rattle.lw_calls.proofs.OrderReading.{range_more, range_fails}
use Rattle.lw_calls.proofs.orders.all_made.Goals as goal

pub returns-then-states-task : goal.returns-then-states-task
returns-then-states-task c =
    sym (range_fails
    (λ t. (slice_index_or c.args.states.now t no_progress).made == length (task_calls c.args.plan.now t))
    c.args.plan.now.sizes.tasks c.loop-task.task (search rules)
    (ne_eqb _ _ (λ e. c.if-states-task.true (e ∙ ap length (sym c.calls.ensures)))))

pub loop-task-preserved : goal.loop-task-preserved
loop-task-preserved c =
    range_more
    (λ t. (slice_index_or c.args.states.now t no_progress).made == length (task_calls c.args.plan.now t)) c.loop-task.task
    c.loop-task.invariant
    (eq-eqb _ _ (c.if-states-task.false ∙ ap length c.calls.ensures))
