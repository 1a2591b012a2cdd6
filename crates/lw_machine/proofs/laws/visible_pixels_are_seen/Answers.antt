use Rattle.lw_machine.proofs.Seen.{visible_seen}
use Rattle.lw_machine.proofs.laws.visible_pixels_are_seen.Goals as goal

pub returns : goal.returns
returns c = visible_seen
