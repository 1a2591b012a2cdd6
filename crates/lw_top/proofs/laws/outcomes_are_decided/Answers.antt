use Rattle.lw_top.proofs.Outcomes.{outcome_decided}
use Rattle.lw_top.proofs.laws.outcomes_are_decided.Goals as goal

pub returns : goal.returns
returns c = outcome_decided
