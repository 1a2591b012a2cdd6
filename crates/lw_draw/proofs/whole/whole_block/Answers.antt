use Rattle.std.proofs.Common.{arith}
use Rattle.std.proofs.lemmas.Int.{ints}
use Rattle.lw_draw.proofs.WholeLaws.{whole_drawable}
use Rattle.lw_draw.proofs.whole.whole_block.Goals as goal

pub returns : goal.returns
returns c = whole_drawable c.args.layer.now c.args.rows c.args.columns _ _ c.in-Some.run' c.cut_whole.result (omega (arith, ints)) (omega (arith, ints)) c.in-Some.ensures c.cut_whole.ensures
