-- The case computes. The tactics, which compare a goal before they compute it, find no end here.
use Rattle.std.proofs.Common.{refl}
use Rattle.lw_cases.proofs.Computing.{computing}
use Rattle.lw_cases.proofs.versions.screens_are_wide.Goals as goal

pub returns : goal.returns
unfolding computing
returns c = refl
