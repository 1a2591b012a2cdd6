use Rattle.lw_kernels.proofs.bytes.spread.Goals as goal
use Rattle.std.proofs.lemmas.Nat.Bits.{bit_at_ones}

pub returns-then-bit : goal.returns-then-bit
returns-then-bit c = λ i low. rw c.if-bit.true (bit_at_ones 8 i low)
