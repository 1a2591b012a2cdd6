use Rattle.lw_apart.proofs.Runs.{apart_show_no_order}
use Rattle.lw_apart.proofs.laws.apart_tasks_show_no_order.Goals as goal

pub returns : goal.returns
returns c = apart_show_no_order
