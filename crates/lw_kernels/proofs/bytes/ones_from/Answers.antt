use Rattle.lw_kernels.proofs.bytes.ones_from.Goals as goal
use Rattle.lw_kernels.proofs.ByteLaws.{bit_at_ones_from}

pub returns : goal.returns
returns c = λ j low. bit_at_ones_from c.args.first j c.requires low
