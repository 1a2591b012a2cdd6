use Rattle.lw_machine.proofs.Locality.{steps_alike}
use Rattle.lw_machine.proofs.laws.steps_are_local.Goals as goal

pub returns : goal.returns
returns c = steps_alike
