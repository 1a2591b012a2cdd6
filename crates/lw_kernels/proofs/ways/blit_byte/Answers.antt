use Rattle.std.proofs.Common.{sym}
use Rattle.std.specs.Int.{bit_at}
use Rattle.std.proofs.lemmas.Nat.Bits.{bit_at-lt}
use Rattle.lw_kernels.proofs.ByteLaws.{minterm_copies}
use Rattle.lw_kernels.proofs.ways.blit_byte.Goals as goal

pub returns-then-copies : goal.returns-then-copies
returns-then-copies c = λ i low. sym (minterm_copies c.args.minterm (bit_at c.args.source i) (bit_at c.args.old i) (bit_at-lt c.args.source i) (c.requires c.if-copies.true))
