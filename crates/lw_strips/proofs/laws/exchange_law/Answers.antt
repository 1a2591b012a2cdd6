use Rattle.lw_strips.proofs.ExchangeLaws.{exchange}
use Rattle.lw_strips.proofs.laws.exchange_law.Goals as goal

pub returns : goal.returns
returns c = exchange
