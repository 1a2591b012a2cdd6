use Rattle.lw_machine.proofs.Untouched.{leaves_the_rest}
use Rattle.lw_machine.proofs.laws.steps_leave_the_rest.Goals as goal

pub returns : goal.returns
returns c = leaves_the_rest
