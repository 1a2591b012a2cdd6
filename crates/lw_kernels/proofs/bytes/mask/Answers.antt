use Rattle.std.proofs.Common.{◌-◌, ◌*◌, arith}
use Rattle.lw_kernels.proofs.bytes.mask.Goals as goal
use Rattle.lw_kernels.proofs.ByteLaws.{bit_at_mask}

pub returns : goal.returns
returns c = λ j low.
    bit_at_mask c.args.from c.args.end c.args.index (c.args.from - 8 * c.args.index) (c.args.end - 8 * c.args.index) c.ones_from.result c.ones_from-2.result j c.ones_from-2.type_inv low (omega arith) (omega arith) (c.ones_from.ensures j low) (c.ones_from-2.ensures j low)
