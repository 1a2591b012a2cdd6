use Rattle.std.proofs.Common.{rules}
use Rattle.lw_backfill.proofs.Tiles.{checker_is_hook, checker_pen}
use Rattle.lw_backfill.proofs.checker.Checker.new.Goals as goal

pub invariant_of-result : goal.invariant_of-result
invariant_of-result c = record { sound = checker_is_hook c.args.a c.args.b (search rules) (search rules) }

pub returns-clause-pens : goal.returns-clause-pens
returns-clause-pens c = checker_pen c.args.a c.args.b
