use Rattle.lw_c_desk.proofs.ChangeLaws.{readings_tell}
use Rattle.lw_c_desk.proofs.laws.readings_tell_what_changed.Goals as goal

pub returns : goal.returns
returns c = readings_tell
