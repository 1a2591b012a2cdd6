use Rattle.lw_top.proofs.DisplayOutcomes.{displays_decided}
use Rattle.lw_top.proofs.laws.displays_are_decided.Goals as goal

pub returns : goal.returns
returns c = displays_decided
