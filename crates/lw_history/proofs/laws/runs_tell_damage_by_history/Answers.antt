use Rattle.lw_history.proofs.RunTold.{runs_tell_damage}
use Rattle.lw_history.proofs.laws.runs_tell_damage_by_history.Goals as goal

pub returns : goal.returns
returns c = runs_tell_damage
