use Rattle.lw_statements.specs.StatementMeaning.{corners_meaning}
use Rattle.lw_statements.proofs.RectRanges.{axes, lower}
use Rattle.lw_statements.proofs.statement.NewLayer.created.Goals as goal

pub step-requires : goal.step-requires
step-requires c = lower _ _ (axes (corners_meaning c.args.corners) c.requires.bounds).0

pub step-requires-2 : goal.step-requires-2
step-requires-2 c = lower _ _ (axes (corners_meaning c.args.corners) c.requires.bounds).1
