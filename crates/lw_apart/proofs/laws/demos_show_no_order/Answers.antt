use Rattle.lw_apart.proofs.Demos.{demos_show}
use Rattle.lw_apart.proofs.laws.demos_show_no_order.Goals as goal

pub returns : goal.returns
returns c = demos_show
