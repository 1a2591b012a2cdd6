use Rattle.lw_top.proofs.LegalOrders.{one_order}
use Rattle.lw_top.proofs.laws.one_task_has_one_order.Goals as goal

pub returns : goal.returns
returns c = one_order
