use Rattle.std.proofs.Common.{length, ap}
use Rattle.lw_stack.proofs.ListLaws.{entries_within_bounds}
use Rattle.lw_arrange.proofs.StackLaws.{below_along}
use Rattle.lw_arrange.proofs.plan.shown_before.Goals as goal

pub shown_in-requires : goal.shown_in-requires
shown_in-requires c =
    below_along _ c.order.result.now _ (length c.all_bounds.result.now) c.order.ensures.value (ap length c.all_bounds.ensures)
    (entries_within_bounds c.args.info.now c.order.ensures.stack)

pub returns-clause-sets : goal.returns-clause-sets
returns-clause-sets c = rw (c.order.ensures.value, c.all_bounds.ensures) at c.shown_in.ensures.sets

pub returns-clause-rest : goal.returns-clause-rest
returns-clause-rest c = rw (c.order.ensures.value, c.all_bounds.ensures) at c.shown_in.ensures.rest
