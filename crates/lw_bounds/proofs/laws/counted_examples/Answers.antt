use Rattle.lw_bounds.proofs.Fronts.{counted}
use Rattle.lw_bounds.proofs.laws.counted_examples.Goals as goal

pub returns : goal.returns
returns c = counted
