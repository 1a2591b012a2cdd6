use Rattle.lw_screens.proofs.Orders.{orders_once}
use Rattle.lw_screens.proofs.laws.orders_have_each_screen_once.Goals as goal

pub returns : goal.returns
returns c = orders_once
