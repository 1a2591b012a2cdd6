use Rattle.std.specs.Int.{w8}
use Rattle.lw_kernels.proofs.bytes.picked.Goals as goal
use Rattle.lw_kernels.proofs.ByteLaws.{bit_at_picked}

pub returns : goal.returns
returns c = λ i low. bit_at_picked w8 c.args.one c.args.other c.args.mask i c.ranges.mask.fits low
