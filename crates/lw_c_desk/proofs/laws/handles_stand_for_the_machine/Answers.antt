use Rattle.lw_c_desk.proofs.HandleLaws.{stand_for_the_machine}
use Rattle.lw_c_desk.proofs.laws.handles_stand_for_the_machine.Goals as goal

pub returns : goal.returns
returns c = stand_for_the_machine
