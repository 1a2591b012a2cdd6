use Rattle.lw_machine.proofs.ReachedSound.{reached_sound}
use Rattle.lw_machine.proofs.laws.reached_desks_are_sound.Goals as goal

pub returns : goal.returns
returns c = reached_sound
