use Rattle.lw_top.proofs.DamageTold.{texts_tell}
use Rattle.lw_top.proofs.laws.texts_tell_damage_by_history.Goals as goal

pub returns : goal.returns
returns c = texts_tell
