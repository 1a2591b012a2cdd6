use Rattle.lw_top.proofs.LegalOrders.{calls_stand_once}
use Rattle.lw_top.proofs.laws.calls_stand_once_and_in_order.Goals as goal

pub returns : goal.returns
returns c = calls_stand_once
