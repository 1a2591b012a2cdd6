use Rattle.std.proofs.Common.{refl}
use Rattle.lw_backfill.specs.Hooks.{solid}
use Rattle.lw_backfill.proofs.Tiles.{one_pen}
use Rattle.lw_backfill.proofs.solid.SolidBackfill.pen_at.Goals as goal

pub returns-clause-pen : goal.returns-clause-pen
returns-clause-pen c = one_pen (solid c.args.self.now.pen) c.args.self.now.pen c.args._x c.args._y refl
