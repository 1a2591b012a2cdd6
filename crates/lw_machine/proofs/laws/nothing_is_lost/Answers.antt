use Rattle.lw_machine.proofs.Lossless.{nothing_lost}
use Rattle.lw_machine.proofs.laws.nothing_is_lost.Goals as goal

pub returns : goal.returns
returns c = nothing_lost
