use Rattle.std.proofs.Common.{◌∙◌, sym}
use Rattle.lw_strips.proofs.PoolLaws.{place_found}
use Rattle.lw_strips.proofs.pool.place_of.Goals as goal

pub returns-then-is_of : goal.returns-then-is_of
returns-then-is_of c =
    place_found c.args.rect.now c.loop-index.index c.args.strips.now c.index-strips-index.result c.loop-index-test.true c.index-strips-index.is (sym c.is_of.ensures ∙ c.if-is_of.true)
