use Rattle.lw_apart.proofs.InTurn.{may_go}
use Rattle.lw_apart.proofs.laws.tasks_may_go_in_turn.Goals as goal

pub returns : goal.returns
returns c = may_go
