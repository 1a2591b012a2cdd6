use Rattle.std.proofs.Common.{rules, ◌==◌, ◌||◌, not, sym, ap, ◌∙◌}
use Rattle.std.proofs.lemmas.Bool.{eq-eqb, ne_eqb}
use Rattle.std.specs.List.{slice_index_or}
use Rattle.lw_calls.specs.Plan.{task_groups}
use Rattle.lw_calls.specs.Code.OrderState.{no_progress, is_held}
use Rattle.lw_calls.proofs.OrderReading.{range_more, range_fails, kept_off_so, let_in_so, own_so}
use Rattle.lw_calls.proofs.orders.is_free.Goals as goal
use Rattle.lw_calls.proofs.orders.is_free.Goals.{else-other-task-via-then-other-task+else-holds}
use Rattle.lw_calls.proofs.orders.is_free.Goals.{else-other-task-via-else-other-task}

pub returns-then-holds : goal.returns-then-holds
returns-then-holds c =
    sym (range_fails
    (λ t. (t == c.args.task) || not
    (is_held (task_groups c.args.plan.now t) c.args.touch.now (slice_index_or c.args.states.now t no_progress)))
    c.args.plan.now.sizes.tasks c.loop-other.other (search rules)
    (kept_off_so _ _ (ne_eqb _ _ c.if-other-task.true)
    (sym (ap
    (λ gs. is_held gs c.args.touch.now (slice_index_or c.args.states.now c.loop-other.other no_progress)) c.groups.ensures) ∙
    (sym c.holds.ensures ∙ c.if-holds.true))))

pub loop-other-preserved : goal.loop-other-preserved
loop-other-preserved c =
    range_more
    (λ t. (t == c.args.task) || not
    (is_held (task_groups c.args.plan.now t) c.args.touch.now (slice_index_or c.args.states.now t no_progress)))
    c.loop-other.other c.loop-other.invariant
    (elim c.else-other-task.branch [
      | else-other-task-via-then-other-task+else-holds w ↦ let_in_so _ _
          (sym (ap
          (λ gs. is_held gs c.args.touch.now (slice_index_or c.args.states.now c.loop-other.other no_progress))
          w.groups.ensures) ∙
          (sym w.holds.ensures ∙ w.if-holds.false))
      | else-other-task-via-else-other-task w ↦ own_so _ _
          (eq-eqb _ _ w.if-other-task.false)
    ])
