use Rattle.lw_kernels.proofs.bytes.shifted.Goals as goal
use Rattle.lw_kernels.proofs.ByteLaws.{bit_at_shifted}

pub returns : goal.returns
returns c = λ j low. bit_at_shifted c.args.left c.args.right c.args.shift j c.ranges.right.fits c.requires.some c.requires.low low
