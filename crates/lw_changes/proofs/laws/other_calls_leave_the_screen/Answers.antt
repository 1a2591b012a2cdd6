use Rattle.lw_changes.proofs.Calls.{others_leave}
use Rattle.lw_changes.proofs.laws.other_calls_leave_the_screen.Goals as goal

pub returns : goal.returns
returns c = others_leave
