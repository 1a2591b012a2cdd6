use Rattle.lw_changes.proofs.Runs.{runs_change}
use Rattle.lw_changes.proofs.laws.runs_change_what_they_touch.Goals as goal

pub returns : goal.returns
returns c = runs_change
