-- Both fields compute. The tactics, which compare a goal before they compute it, find no end here.
use Rattle.std.proofs.Common.{refl}
use Rattle.lw_cases.proofs.Computing.{computing}
use Rattle.lw_cases.proofs.histories.damage_of_an_update_is_its_history.Goals as goal

pub returns-clause-hook : goal.returns-clause-hook
unfolding computing
returns-clause-hook c = record { hurt = refl; kept = refl }
