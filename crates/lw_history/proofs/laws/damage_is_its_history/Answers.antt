use Rattle.lw_history.proofs.HistoryTold.{damage_is_history}
use Rattle.lw_history.proofs.laws.damage_is_its_history.Goals as goal

pub returns : goal.returns
returns c = damage_is_history
