use Rattle.lw_canonical.proofs.PlansApart.{spelled_plans_apart}
use Rattle.lw_canonical.proofs.laws.spelled_plans_keep_pairs_apart.Goals as goal

pub returns : goal.returns
returns c = spelled_plans_apart
