-- Both fields compute. The tactics, which compare a goal before they compute it, find no end here.
use Rattle.std.proofs.Common.{refl}
use Rattle.lw_cases.proofs.Computing.{computing}
use Rattle.lw_cases.proofs.versions.damage_of_the_versions_is_its_history.Goals as goal

pub returns-clause-replaced : goal.returns-clause-replaced
unfolding computing
returns-clause-replaced c = record { hurt = refl; kept = refl }
