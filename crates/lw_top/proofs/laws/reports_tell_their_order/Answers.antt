use Rattle.lw_top.proofs.PrintedOrder.{reports_tell}
use Rattle.lw_top.proofs.laws.reports_tell_their_order.Goals as goal

pub returns : goal.returns
returns c = reports_tell
