use Rattle.lw_order.proofs.HistoryLaws.{count_of_added}
use Rattle.lw_order.proofs.order.Order.stamp.Goals as goal

pub returns-clause-counted : goal.returns-clause-counted
returns-clause-counted c = count_of_added _ _ _ c.args.task c.args.call.now _ c.requires.owns.has_task c.stamp_as.ensures.added
