use Rattle.std.proofs.Common.{arith}
use Rattle.std.proofs.lemmas.Grind.{common_steps}
use Rattle.lw_ilbm.proofs.Codes.{before_more}
use Rattle.lw_ilbm.proofs.packing.bytes_before_three.Goals as goal

pub loop-count-preserved : goal.loop-count-preserved
loop-count-preserved c = grind (arith, common_steps, before_more)
