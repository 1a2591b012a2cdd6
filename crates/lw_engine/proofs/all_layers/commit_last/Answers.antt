use Rattle.std.proofs.Common.{ap, ◌∙◌, arith}
use Rattle.lw_strips.specs.Pools.{copies}
use Rattle.lw_strips.proofs.ExchangeLaws.{exchange}
use Rattle.lw_engine.proofs.ExchangeSums.{none_left}
use Rattle.lw_engine.proofs.all_layers.commit_last.Goals as goal

pub commit_info-requires-clause-pool : goal.commit_info-requires-clause-pool
commit_info-requires-clause-pool c = λ r.
    let one = ap (copies r) c.requires.gained ∙ exchange.gained r c.args.info.now.sizes.slots c.args.pieces.now in
    let last = c.requires.last r in
    omega (arith, one, last)

pub returns-clause-emptied : goal.returns-clause-emptied
returns-clause-emptied c =
    none_left c.args.info.now.sizes.slots c.args.pieces.now c.args.next.exchange.gained.items c.args.pool.now c.commit_info.new.pool c.requires.gained
    c.requires.last c.commit_info.ensures.numbers
