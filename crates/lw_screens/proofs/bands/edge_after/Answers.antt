use Rattle.std.proofs.Common.{arith}
use Rattle.lw_screens.proofs.Owners.{owner_same}
use Rattle.lw_screens.proofs.bands.edge_after.Goals as goal

pub returns-clause-same : goal.returns-clause-same
returns-clause-same c order y from to =
    owner_same c.args.screens.now order y c.args.row
    (λ k there. c.loop-screen.invariant.same k y (omega arith) from to)
