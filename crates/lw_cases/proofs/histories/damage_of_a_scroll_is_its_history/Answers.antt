-- Both fields compute. The tactics, which compare a goal before they compute it, find no end here.
use Rattle.std.proofs.Common.{refl}
use Rattle.lw_cases.proofs.Computing.{computing}
use Rattle.lw_cases.proofs.histories.damage_of_a_scroll_is_its_history.Goals as goal

pub returns-clause-under_cover : goal.returns-clause-under_cover
unfolding computing
returns-clause-under_cover c = record { hurt = refl; kept = refl }

pub returns-clause-uncovered : goal.returns-clause-uncovered
unfolding computing
returns-clause-uncovered c = record { hurt = refl; kept = refl }

pub returns-clause-once_more : goal.returns-clause-once_more
unfolding computing
returns-clause-once_more c = record { hurt = refl; kept = refl }
