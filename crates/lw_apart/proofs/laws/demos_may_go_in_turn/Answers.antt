use Rattle.lw_apart.proofs.InTurn.{demos_may_go}
use Rattle.lw_apart.proofs.laws.demos_may_go_in_turn.Goals as goal

pub returns : goal.returns
returns c = demos_may_go
