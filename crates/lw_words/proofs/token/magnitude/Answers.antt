use Rattle.std.proofs.Common.{arith}
use Rattle.lw_words.proofs.Numbers.{capped_more}
use Rattle.lw_words.proofs.token.magnitude.Goals as goal

pub loop-digit-preserved : goal.loop-digit-preserved
loop-digit-preserved c =
    let e = capped_more c.args.digits.now c.loop-digit.digit-index c.loop-digit.total c.requires (omega arith) c.loop-digit.invariant in
    omega (arith, e)
