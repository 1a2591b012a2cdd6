use Rattle.lw_strips.proofs.PoolLaws.{counting}
use Rattle.lw_strips.proofs.laws.counting_law.Goals as goal

pub returns : goal.returns
returns c = counting
