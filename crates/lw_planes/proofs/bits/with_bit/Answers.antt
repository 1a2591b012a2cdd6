use Rattle.lw_planes.proofs.BitLaws.{bit_at_set, bit_at_clear}
use Rattle.lw_planes.proofs.bits.with_bit.Goals as goal

pub returns-then-bit : goal.returns-then-bit
returns-then-bit c = λ i l. rw c.if-bit.true (bit_at_set c.args.byte c.args.shift i c.requires)

pub returns-else-bit : goal.returns-else-bit
returns-else-bit c = λ i l. rw c.if-bit.false (bit_at_clear c.args.byte c.args.shift i c.requires l)
