use Rattle.std.proofs.Common.{arith}
use Rattle.std.proofs.lemmas.Int.{ints}
use Rattle.lw_draw.proofs.WholeLaws.{whole_kept}
use Rattle.lw_draw.proofs.whole.whole_kept_block.Goals as goal

pub returns : goal.returns
returns c = whole_kept c.args.layer.now c.args.rows c.args.columns _ _ c.in-Some.run' c.cut_whole.result (omega (arith, ints)) (omega (arith, ints)) c.in-Some.ensures c.cut_whole.ensures
