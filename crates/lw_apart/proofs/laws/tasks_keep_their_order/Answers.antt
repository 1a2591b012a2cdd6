use Rattle.lw_apart.proofs.TaskOrders.{calls_of_task}
use Rattle.lw_apart.proofs.laws.tasks_keep_their_order.Goals as goal

pub returns : goal.returns
returns c = calls_of_task
