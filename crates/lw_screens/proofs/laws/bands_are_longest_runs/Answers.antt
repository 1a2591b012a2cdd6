use Rattle.std.proofs.Common.{arith}
use Rattle.lw_screens.specs.Display.{owner_of}
use Rattle.lw_screens.proofs.Runs.{bands_are_runs}
use Rattle.lw_screens.proofs.laws.bands_are_longest_runs.Goals as goal

pub returns : goal.returns
returns c d = bands_are_runs (owner_of d) d.height 0 d.height (omega arith)
