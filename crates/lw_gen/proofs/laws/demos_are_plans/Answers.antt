use Rattle.lw_gen.proofs.Plans.{are_plans}
use Rattle.lw_gen.proofs.laws.demos_are_plans.Goals as goal

pub returns : goal.returns
returns c = are_plans
