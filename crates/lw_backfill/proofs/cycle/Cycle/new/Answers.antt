use Rattle.std.proofs.Common.{rules, arith}
use Rattle.lw_backfill.proofs.Tiles.{cycle_is_hook}
use Rattle.lw_backfill.proofs.cycle.Cycle.new.Goals as goal

pub invariant_of-result : goal.invariant_of-result
invariant_of-result c = record { sound = cycle_is_hook c.args.pens.items 0 (search rules) (search (rules, arith)) }
