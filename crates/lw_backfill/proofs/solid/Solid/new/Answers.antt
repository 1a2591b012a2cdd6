use Rattle.std.proofs.Common.{rules}
use Rattle.lw_backfill.proofs.Tiles.{solid_is_hook}
use Rattle.lw_backfill.proofs.solid.Solid.new.Goals as goal

pub invariant_of-result : goal.invariant_of-result
invariant_of-result c = record { sound = solid_is_hook c.args.pen (search rules) }
