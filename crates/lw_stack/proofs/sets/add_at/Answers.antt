use Rattle.std.proofs.lemmas.Result.{on_ok_weaker}
use Rattle.lw_stack.proofs.SetsLaws.{joined}
use Rattle.lw_stack.proofs.sets.add_at.Goals as goal

pub returns-clause-set : goal.returns-clause-set
returns-clause-set c =
    on_ok_weaker c.or_region.result (joined c.args.part.now.set c.args.region.now c.or_region.new.into) c.or_region.ensures.list
